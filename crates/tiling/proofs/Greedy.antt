-- The greedy choice as a relation between a state and the whole list laid from it. The relation has just one list for a state, and
-- the function's is that list wherever laying a best of length 1 or more makes some measure of the state fall, so the fuel that
-- the function is given says nothing. What is left when all are laid, what a greater minimum lays first, and that lengths do not rise
-- follow along the relation.
-- Assumes nothing.
use Prim.Native.Nat.{ℕ, zero, suc, ◌≤◌, ◌<◌}
use native.Mathlib.Decide.{dec_le}
use native.Mathlib.Omega.{arith}
use mathlib.Core.Path.{◌≡◌, refl, ap}
use mathlib.Core.List.{List, [], ◌∷◌, ◌++◌}
use borrow.Author.Tests.{le-leb, lt-leb}
use Rattle.tiling.specs.Each.{Each, none, also, Pairs, no_pair, before}
use Rattle.tiling.specs.Greedy.{greedy, Greedy, done, more, after}

module _ {S K : Type 0} {best : S → K} {size : K → ℕ} {lay : S → K → S} where
  -- Only one list is laid from a state.
  pub only : {minimum : ℕ} {s : S} {ks ls : List K} → Greedy best size lay minimum s ks → Greedy best size lay minimum s ls → ks ≡ ls
  only (done h) (done k) = refl
  only (done h) (more k g) = absurd (omega arith)
  only (more h g) (done k) = absurd (omega arith)
  only {s = s} (more h g) (more k j) = ap (λ xs. best s ∷ xs) (only g j)

  -- When all are laid, nothing long enough is left; and all that were laid are long enough.
  pub complete : {minimum : ℕ} {s : S} {ks : List K} → Greedy best size lay minimum s ks → size (best (after lay s ks)) < minimum
  unfolding after
  complete (done h) = h
  complete (more h g) = complete g

  pub at_least : {minimum : ℕ} {s : S} {ks : List K} → Greedy best size lay minimum s ks → Each (λ k. minimum ≤ size k) ks
  at_least (done h) = none
  at_least (more h g) = also h (at_least g)

  -- Those of at least a greater minimum come first, and then what is laid at the minimum from there.
  pub split : {minimum longer : ℕ} {s : S} {ks ls : List K} → minimum ≤ longer → Greedy best size lay longer s ks → Greedy best size lay minimum (after lay s ks) ls → Greedy best size lay minimum s (ks ++ ls)
  unfolding after
  split le (done h) j = j
  split {minimum = minimum} le (more {s = s} h g) j = let m : minimum ≤ size (best s) = omega arith in more m (split le g j)

  -- Where laying the best never makes a longer best, no later one is longer.
  module _ (shrinks : (s : S) → size (best (lay s (best s))) ≤ size (best s)) where
    pub bounded : {minimum n : ℕ} {s : S} {ks : List K} → size (best s) ≤ n → Greedy best size lay minimum s ks → Each (λ k. size k ≤ n) ks
    bounded h (done k) = none
    bounded h (more {s = s} k g) = also h (bounded (omega (arith, shrinks s)) g)

    pub never_rise : {minimum : ℕ} {s : S} {ks : List K} → Greedy best size lay minimum s ks → Pairs (λ k l. size l ≤ size k) ks
    never_rise (done h) = no_pair
    never_rise (more {s = s} h g) = before (bounded (shrinks s) g) (never_rise g)

module _ {S K : Type 0} (best : S → K) (size : K → ℕ) (lay : S → K → S) where
  greedy_done : (fuel minimum : ℕ) (s : S) → size (best s) < minimum → greedy best size lay fuel minimum s ≡ []
  unfolding greedy
  greedy_done zero minimum s h = refl
  greedy_done (suc fuel) minimum s h = rw (greedy, lt-leb minimum (size (best s)) h) refl

  greedy_more : (fuel minimum : ℕ) (s : S) → minimum ≤ size (best s) → greedy best size lay (suc fuel) minimum s ≡ best s ∷ greedy best size lay fuel minimum (lay s (best s))
  unfolding greedy
  greedy_more fuel minimum s h = rw (greedy, le-leb minimum (size (best s)) h) refl

  -- What holds of the best in every state that is reached holds of all that are laid, however far the fuel goes.
  module _ (Reached : S → Type 0) (Q : K → Type 0) (holds : (s : S) → Reached s → Q (best s)) (keeps : (s : S) → Reached s → Reached (lay s (best s))) where
    pub greedy_each : (fuel minimum : ℕ) (s : S) → Reached s → Each Q (greedy best size lay fuel minimum s)
    unfolding greedy
    greedy_each zero minimum s r = none
    greedy_each (suc fuel) minimum s r = go (greedy_each fuel minimum (lay s (best s)) (keeps s r)) (dec_le minimum (size (best s)))
      where
        go : Each Q (greedy best size lay fuel minimum (lay s (best s))) → Dec (minimum ≤ size (best s)) → Each Q (greedy best size lay (suc fuel) minimum s)
        go rest (yes k) = rw (greedy_more fuel minimum s k) (also (holds s r) rest)
        go rest (no k) = let l : size (best s) < minimum = omega (arith, k) in rw (greedy_done (suc fuel) minimum s l) none

  module _ (measure : S → ℕ) (falls : (s : S) → 1 ≤ size (best s) → measure (lay s (best s)) < measure s) where
    -- The function's list is the one that the relation gives, where the fuel is at least the measure.
    pub greedy_meets : (minimum : ℕ) → 1 ≤ minimum → (fuel : ℕ) (s : S) → measure s ≤ fuel → Greedy best size lay minimum s (greedy best size lay fuel minimum s)
    greedy_meets minimum one zero s h = go (dec_le minimum (size (best s)))
      where
        go : Dec (minimum ≤ size (best s)) → Greedy best size lay minimum s (greedy best size lay zero minimum s)
        go (yes k) = absurd (omega (arith, falls s (omega arith)))
        go (no k) = let l : size (best s) < minimum = omega (arith, k) in rw (greedy_done zero minimum s l) (done l)
    greedy_meets minimum one (suc fuel) s h = go (greedy_meets minimum one fuel (lay s (best s))) (dec_le minimum (size (best s)))
      where
        go : (measure (lay s (best s)) ≤ fuel → Greedy best size lay minimum (lay s (best s)) (greedy best size lay fuel minimum (lay s (best s)))) → Dec (minimum ≤ size (best s)) → Greedy best size lay minimum s (greedy best size lay (suc fuel) minimum s)
        go f (yes k) = rw (greedy_more fuel minimum s k) (more k (f (omega (arith, falls s (omega arith)))))
        go f (no k) = let l : size (best s) < minimum = omega (arith, k) in rw (greedy_done (suc fuel) minimum s l) (done l)
