-- Pairs of words that pass a test one after another: each of them does, and the next does not, unless a list ends.
-- Assumes nothing.
use Prim.Native.Nat.{ℕ, zero, suc, ◌+◌, ◌≤◌, ◌<◌, min}
use native.Mathlib.Nat.{not-suc-le-zero}
use native.Mathlib.Decide.{dec_le}
use native.Mathlib.Omega.{arith}
use mathlib.Core.Path.{◌≡◌, refl, sym, ◌∙◌}
use mathlib.Core.Bool.{Bool, true, false}
use mathlib.Core.List.{List, [], ◌∷◌}
use lib.ListN.{length, drop, get_or}
use Rattle.tiling.specs.Run.{leading}

module _ (test : ℕ → ℕ → Bool) where
  pub leading_nil : (xs : List ℕ) → leading test xs [] ≡ 0
  unfolding leading
  leading_nil [] = refl
  leading_nil (x ∷ xs) = refl

  pub leading_cons : (x y : ℕ) (xs ys : List ℕ) → test x y ≡ true → leading test (x ∷ xs) (y ∷ ys) ≡ suc (leading test xs ys)
  unfolding leading
  leading_cons x y xs ys e = rw (leading, e) refl

  pub leading_none : (x y : ℕ) (xs ys : List ℕ) → test x y ≡ false → leading test (x ∷ xs) (y ∷ ys) ≡ 0
  unfolding leading
  leading_none x y xs ys e = rw (leading, e) refl

  pub leading_within : (xs ys : List ℕ) → leading test xs ys ≤ min (length xs) (length ys)
  unfolding leading
  leading_within [] ys = omega arith
  leading_within (x ∷ xs) [] = omega arith
  leading_within (x ∷ xs) (y ∷ ys) = go (leading_within xs ys) (test x y) refl
    where
      go : leading test xs ys ≤ min (length xs) (length ys) → (b : Bool) → test x y ≡ b → leading test (x ∷ xs) (y ∷ ys) ≤ min (suc (length xs)) (suc (length ys))
      go h true e = omega (arith, leading_cons x y xs ys e)
      go h false e = omega (arith, leading_none x y xs ys e)

  pub leading_passes : (xs ys : List ℕ) (i : ℕ) → i < leading test xs ys → test (get_or xs i 0) (get_or ys i 0) ≡ true
  unfolding leading
  leading_passes [] ys i h = absurd (not-suc-le-zero h)
  leading_passes (x ∷ xs) [] i h = absurd (not-suc-le-zero h)
  leading_passes (x ∷ xs) (y ∷ ys) zero h = go (test x y) refl
    where
      go : (b : Bool) → test x y ≡ b → test x y ≡ true
      go true e = e
      go false e = absurd (not-suc-le-zero (rw (leading_none x y xs ys e) at h))
  leading_passes (x ∷ xs) (y ∷ ys) (suc i) h = go (leading_passes xs ys i) (test x y) refl
    where
      go : (i < leading test xs ys → test (get_or xs i 0) (get_or ys i 0) ≡ true) → (b : Bool) → test x y ≡ b → test (get_or xs i 0) (get_or ys i 0) ≡ true
      go f true e = f (omega (arith, leading_cons x y xs ys e))
      go f false e = absurd (not-suc-le-zero (rw (leading_none x y xs ys e) at h))

  pub leading_stops : (xs ys : List ℕ) → leading test xs ys < min (length xs) (length ys) → test (get_or xs (leading test xs ys) 0) (get_or ys (leading test xs ys) 0) ≡ false
  unfolding leading
  leading_stops [] ys h = absurd (omega arith)
  leading_stops (x ∷ xs) [] h = absurd (omega arith)
  leading_stops (x ∷ xs) (y ∷ ys) h = go (leading_stops xs ys) (test x y) refl
    where
      go : (leading test xs ys < min (length xs) (length ys) → test (get_or xs (leading test xs ys) 0) (get_or ys (leading test xs ys) 0) ≡ false) → (b : Bool) → test x y ≡ b → test (get_or (x ∷ xs) (leading test (x ∷ xs) (y ∷ ys)) 0) (get_or (y ∷ ys) (leading test (x ∷ xs) (y ∷ ys)) 0) ≡ false
      go f true e = let k = leading_cons x y xs ys e in rw k (f (omega (arith, k)))
      go f false e = rw (leading_none x y xs ys e) e

  -- They end where two words do not pass, at the latest.
  pub leading_most : (xs ys : List ℕ) (i : ℕ) → test (get_or xs i 0) (get_or ys i 0) ≡ false → leading test xs ys ≤ i
  leading_most xs ys i e = go (dec_le (leading test xs ys) i)
    where
      go : Dec (leading test xs ys ≤ i) → leading test xs ys ≤ i
      go (yes k) = k
      go (no k) = let f : true ≡ false = sym (leading_passes xs ys i (omega (arith, k))) ∙ e in let z : ◌≡◌ {A = ℕ} 0 1 = cc in omega arith

  -- Those after the first n are those of what follows these.
  pub leading_after : (n : ℕ) (xs ys : List ℕ) → n ≤ leading test xs ys → leading test xs ys ≡ n + leading test (drop n xs) (drop n ys)
  unfolding leading
  leading_after zero xs ys h = omega arith
  leading_after (suc n) [] ys h = absurd (not-suc-le-zero h)
  leading_after (suc n) (x ∷ xs) [] h = absurd (not-suc-le-zero h)
  leading_after (suc n) (x ∷ xs) (y ∷ ys) h = go (leading_after n xs ys) (test x y) refl
    where
      go : (n ≤ leading test xs ys → leading test xs ys ≡ n + leading test (drop n xs) (drop n ys)) → (b : Bool) → test x y ≡ b → leading test (x ∷ xs) (y ∷ ys) ≡ suc n + leading test (drop n xs) (drop n ys)
      go f true e = let k = leading_cons x y xs ys e in omega (arith, k, f (omega (arith, k)))
      go f false e = absurd (not-suc-le-zero (rw (leading_none x y xs ys e) at h))
