-- A chain holds exactly the unmarked positions, in rising order: from the first of them on, entry by entry, just these are reached.
-- Assumes nothing.
use Prim.Native.Nat.{ℕ, zero, suc, ◌+◌, ◌-◌, ◌≤◌, ◌<◌}
use native.Mathlib.Decide.{dec_lt, ℕ_discrete}
use native.Mathlib.Omega.{arith}
use mathlib.Core.Path.{◌≡◌, refl, sym, ◌∙◌, ap}
use mathlib.Core.List.{List, [], ◌∷◌}
use borrow.Author.Tests.{lt-ltb, le-ltb}
use lib.ListN.{length, drop, get_or, length-drop}
use lib.Seq.{drop-cons}
use Rattle.chain.specs.First.{First}
use Rattle.chain.specs.Chain.{Free, next_of, Chained}
use Rattle.chain.specs.Listed.{reached, unmarked}
use Rattle.chain.proofs.Links.{next_above}

-- A free word is listed, and a marked one is not.
listed_free : (at w : ℕ) (ws : List ℕ) → (w ≡ 0 → ⊥) → unmarked at (w ∷ ws) ≡ at ∷ unmarked (suc at) ws
unfolding unmarked
listed_free at zero ws d = absurd (d refl)
listed_free at (suc w) ws d = refl

listed_marked : (at : ℕ) (ws : List ℕ) → unmarked at (0 ∷ ws) ≡ unmarked (suc at) ws
unfolding unmarked
listed_marked at ws = refl

listed_past : (at : ℕ) (ws : List ℕ) → length ws ≤ 0 → unmarked at ws ≡ []
unfolding unmarked
listed_past at [] h = refl
listed_past at (w ∷ ws) h = absurd (omega arith)

skip_marked : (xs : List ℕ) (a n : ℕ) → a + n ≤ length xs → ((i : ℕ) → a ≤ i → i < a + n → get_or xs i 0 ≡ 0) → unmarked a (drop a xs) ≡ unmarked (a + n) (drop (a + n) xs)
skip_marked xs a zero h z = let e : a + 0 ≡ a = omega arith in rw e refl
skip_marked xs a (suc n) h z =
    let e : a + suc n ≡ suc (a + n) = omega arith in
    let first : drop (a + n) xs ≡ 0 ∷ drop (suc (a + n)) xs = drop-cons xs (a + n) 0 (omega arith) ∙ ap (λ w. w ∷ drop (suc (a + n)) xs) (z (a + n) (omega arith) (omega arith)) in
    skip_marked xs a n (omega arith) (λ i u v. z i u (omega arith))
    ∙ (ap (unmarked (a + n)) first ∙ (listed_marked (a + n) (drop (suc (a + n)) xs) ∙ ap (λ k. unmarked k (drop k xs)) (sym e)))

module _ (xs es : List ℕ) (c : Chained xs es) where
  marked : (i at : ℕ) → at < length xs → at + 1 ≤ i → i < next_of es at → get_or xs i 0 ≡ 0
  marked i at h a b = go (ℕ_discrete (get_or xs i 0) 0)
    where
      go : Dec (get_or xs i 0 ≡ 0) → get_or xs i 0 ≡ 0
      go (yes z) = z
      go (no d) = absurd (c.passed at i h (omega arith) b d)

  -- From a free word on.
  from_free : (n at : ℕ) → length xs ≤ at + n → (at < length xs → Free xs at) → at ≤ length xs → reached es n at ≡ unmarked at (drop at xs)
  unfolding reached
  from_free zero at h f l = sym (listed_past at (drop at xs) (omega (arith, length-drop at xs)))
  from_free (suc n) at h f l =
      go (dec_lt at (length xs)) (λ d. from_free n (next_of es at) (omega (arith, next_above es at)) (λ k. c.next at d (f d) k) (low d))
    where
      low : at < length xs → next_of es at ≤ length xs
      low d = omega (arith, c.ranged.ahead at (omega (arith, c.each)), c.each)

      go : Dec (at < length xs) → (at < length xs → reached es n (next_of es at) ≡ unmarked (next_of es at) (drop (next_of es at) xs)) → reached es (suc n) at ≡ unmarked at (drop at xs)
      go (no d) rest = rw (reached, le-ltb at (length es) (omega (arith, d, c.each))) (sym (listed_past at (drop at xs) (omega (arith, d, length-drop at xs))))
      go (yes d) rest =
          let up : at < next_of es at = next_above es at in
          let gap : suc at + (next_of es at - suc at) ≡ next_of es at = omega arith in
          let skipped : unmarked (suc at) (drop (suc at) xs) ≡ unmarked (next_of es at) (drop (next_of es at) xs) =
          skip_marked xs (suc at) (next_of es at - suc at) (omega (arith, low d)) (λ i a b. marked i at d (omega arith) (omega arith)) ∙ ap (λ k. unmarked k (drop k xs)) gap in
          rw (reached, lt-ltb at (length es) (omega (arith, c.each)))
          (ap (λ ks. at ∷ ks) (rest d ∙ sym skipped)
          ∙ sym (ap (unmarked at) (drop-cons xs at 0 d) ∙ listed_free at (get_or xs at 0) (drop (suc at) xs) (f d)))

  -- From the first free word on, all of them.
  pub chain_lists : (first : ℕ) → First (Free xs) 0 (length xs) first → reached es (length xs) first ≡ unmarked 0 xs
  chain_lists first r =
      from_free (length xs) first (omega arith) r.stops r.within ∙ sym (skip_marked xs 0 first (omega (arith, r.within)) (λ i a b. none i (omega arith) (ℕ_discrete (get_or xs i 0) 0)) ∙ ap (λ k. unmarked k (drop k xs)) start)
    where
      start : 0 + first ≡ first
      start = omega arith

      none : (i : ℕ) → i < first → Dec (get_or xs i 0 ≡ 0) → get_or xs i 0 ≡ 0
      none i b (yes z) = z
      none i b (no d) = absurd (r.none i (omega arith) b d)
