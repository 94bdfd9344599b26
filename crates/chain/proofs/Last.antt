-- Looking for the last number that has a property, one number before another.
-- Assumes nothing.
use Prim.Native.Nat.{ℕ, ◌≤◌, ◌<◌}
use native.Mathlib.Decide.{dec_lt}
use native.Mathlib.Omega.{arith}

-- None of the numbers from i up to `to` has the property.
pub record Returning (Q : ℕ → Type 0) (to i : ℕ) : Type 0 where
  pub within : i ≤ to
  pub none : (k : ℕ) → i ≤ k → k < to → Q k → ⊥

module _ (Q : ℕ → Type 0) (to i : ℕ) (r : Returning Q to i) where
  pub returning_to : (next : ℕ) → next ≤ i → ((k : ℕ) → next ≤ k → k < i → Q k → ⊥) → Returning Q to next
  returning_to next h d = record { within = omega (arith, r.within); none = λ k a b. none k a b (dec_lt k i) }
    where
      none : (k : ℕ) → next ≤ k → k < to → Dec (k < i) → Q k → ⊥
      none k a b (yes m) = d k a m
      none k a b (no m) = r.none k (omega (arith, m)) b
