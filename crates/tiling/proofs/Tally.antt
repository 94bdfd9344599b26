-- How many words of a list pass a test. Where 0 does not pass, marking a stretch takes away just those that passed in it. One law serves
-- the number of free calls, the calls of a code, and what a tile covers.
-- Assumes nothing.
use Prim.Native.Nat.{ℕ, zero, suc, ◌+◌, ◌≤◌, ◌<◌}
use native.Mathlib.Nat.{not-suc-le-zero, le_of_suc-le-suc}
use native.Mathlib.Omega.{arith}
use mathlib.Core.Path.{◌≡◌, refl}
use mathlib.Core.Bool.{Bool, true, false}
use mathlib.Core.List.{List, [], ◌∷◌, ◌++◌, map}
use lib.ListN.{length, take, drop, get_or}
use lib.Seq.{take-nil, drop-nil}
use Rattle.tiling.specs.Tally.{one, tally}
use Rattle.tiling.specs.Run.{mark}

one_small : (b : Bool) → one b ≤ 1
one_small true = omega arith
one_small false = omega arith

module _ (test : ℕ → Bool) where
  pub tally_length : (xs : List ℕ) → tally test xs ≤ length xs
  unfolding tally
  tally_length [] = omega arith
  tally_length (x ∷ xs) = omega (arith, tally_length xs, one_small (test x))

  pub tally_mark : test 0 ≡ false → (i n : ℕ) (xs : List ℕ) → tally test xs ≡ tally test (mark i n xs) + tally test (take n (drop i xs))
  unfolding tally mark
  tally_mark z i n [] = rw (drop-nil {A = ℕ} i, take-nil {A = ℕ} n) (omega arith)
  tally_mark z (suc i) n (x ∷ xs) = omega (arith, tally_mark z i n xs)
  tally_mark z zero zero (x ∷ xs) = omega arith
  tally_mark z zero (suc n) (x ∷ xs) = rw z (omega (arith, tally_mark z zero n xs))

  -- A stretch within the list in which every word passes counts whole.
  pub tally_all : (n : ℕ) (xs : List ℕ) → n ≤ length xs → ((i : ℕ) → i < n → test (get_or xs i 0) ≡ true) → tally test (take n xs) ≡ n
  unfolding tally
  tally_all zero [] h f = refl
  tally_all zero (x ∷ xs) h f = refl
  tally_all (suc n) [] h f = absurd (not-suc-le-zero h)
  tally_all (suc n) (x ∷ xs) h f =
      let r = tally_all n xs (le_of_suc-le-suc h) (λ i k. f (suc i) (omega arith)) in
      rw (f 0 (omega arith)) (omega (arith, r))

  pub tally_append : (xs ys : List ℕ) → tally test (xs ++ ys) ≡ tally test xs + tally test ys
  unfolding tally
  tally_append [] ys = omega arith
  tally_append (x ∷ xs) ys = omega (arith, tally_append xs ys)

  -- Words may be exchanged for others that pass where they do.
  pub tally_map : (f : ℕ → ℕ) → ((w : ℕ) → test (f w) ≡ test w) → (xs : List ℕ) → tally test (map f xs) ≡ tally test xs
  unfolding tally
  tally_map f h [] = refl
  tally_map f h (x ∷ xs) = rw (h x, tally_map f h xs) refl

  -- Where the count is not 0, some word passes.
  pub record Passes (xs : List ℕ) : Type 0 where
    pub position : ℕ
    pub passes : test (get_or xs position 0) ≡ true

  pub tally_some : (xs : List ℕ) → 1 ≤ tally test xs → Passes xs
  unfolding tally
  tally_some [] h = absurd (not-suc-le-zero h)
  tally_some (x ∷ xs) h = go (tally_some xs) (test x) refl
    where
      go : (1 ≤ tally test xs → Passes xs) → (b : Bool) → test x ≡ b → Passes (x ∷ xs)
      go f true e = record { position = 0; passes = e }
      go f false e = let k : 1 ≤ 0 + tally test xs = rw e at h in let r = f (omega arith) in record { position = suc r.position; passes = r.passes }

-- ---- several tests
pub tally_none : {f : ℕ → Bool} → ((w : ℕ) → f w ≡ false) → (xs : List ℕ) → tally f xs ≡ 0
unfolding tally
tally_none h [] = refl
tally_none h (x ∷ xs) = rw (h x) (omega (arith, tally_none h xs))

pub tally_same : {f g : ℕ → Bool} → ((w : ℕ) → f w ≡ g w) → (xs : List ℕ) → tally f xs ≡ tally g xs
unfolding tally
tally_same h [] = refl
tally_same h (x ∷ xs) = rw (h x, tally_same h xs) refl

-- Where each word that passes h passes just one of f and g.
pub tally_add : (f g h : ℕ → Bool) → ((w : ℕ) → one (f w) + one (g w) ≡ one (h w)) → (xs : List ℕ) → tally f xs + tally g xs ≡ tally h xs
unfolding tally
tally_add f g h e [] = refl
tally_add f g h e (x ∷ xs) = omega (arith, e x, tally_add f g h e xs)
