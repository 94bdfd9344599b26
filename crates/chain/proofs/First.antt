-- Looking for the first number that has a property, one number after another.
-- Assumes nothing.
use Prim.Native.Nat.{ℕ, ◌+◌, ◌≤◌, ◌<◌}
use native.Mathlib.Decide.{dec_lt}
use native.Mathlib.Omega.{arith}
use mathlib.Core.Path.{◌≡◌}
use Rattle.chain.specs.First.{First, Passing}

module _ (Q : ℕ → Type 0) (from n i : ℕ) (r : Passing Q from n i) where
  pub passing_to : (next : ℕ) → i ≤ next → next ≤ n → ((k : ℕ) → i ≤ k → k < next → Q k → ⊥) → Passing Q from n next
  passing_to next h l d = record { least = omega (arith, r.least); within = l; none = λ k a b. none k a b (dec_lt k i) }
    where
      none : (k : ℕ) → from ≤ k → k < next → Dec (k < i) → Q k → ⊥
      none k a b (yes m) = r.none k a m
      none k a b (no m) = d k (omega (arith, m)) b

  pub passing_one : i < n → (Q i → ⊥) → Passing Q from n (i + 1)
  passing_one h d = passing_to (i + 1) (omega arith) (omega arith) (λ k a b q. let e : k ≡ i = omega arith in d (rw e at q))

  pub first_none : n ≤ i → First Q from n i
  first_none h = record { least = r.least; within = r.within; none = r.none; stops = λ l. absurd (omega arith) }
