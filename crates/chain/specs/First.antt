-- The first number that has a property, and the last. No reader of the engines' contracts needs these.
use Rattle.std.specs.Prelude.{ℕ, ◌-◌, ◌≤◌, ◌<◌}

-- r is the first number from `from` on and below n that has the property, or n where there is none.
pub record First (Q : ℕ → Type 0) (from n r : ℕ) : Type 0 where
  pub least : from ≤ r
  pub within : r ≤ n
  pub none : (i : ℕ) → from ≤ i → i < r → Q i → ⊥
  pub stops : r < n → Q r

-- None of the numbers from `from` up to r has the property, and r is not above n.
pub record Passing (Q : ℕ → Type 0) (from n r : ℕ) : Type 0 where
  pub least : from ≤ r
  pub within : r ≤ n
  pub none : (k : ℕ) → from ≤ k → k < r → Q k → ⊥

-- r is one past the last number below `to` that has the property, or 0 where there is none.
pub record Last (Q : ℕ → Type 0) (to r : ℕ) : Type 0 where
  pub within : r ≤ to
  pub none : (i : ℕ) → r ≤ i → i < to → Q i → ⊥
  pub stops : 0 < r → Q (r - 1)
