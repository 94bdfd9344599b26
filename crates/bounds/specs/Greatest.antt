-- The greatest of some numbers. No reader of the engines' contracts needs it.
use Rattle.std.specs.Prelude.{ℕ, ◌≤◌, ◌<◌, ◌≡◌}

-- r is one of f 0, .. f (n - 1).
pub record Among (f : ℕ → ℕ) (n r : ℕ) : Type 0 where
  pub at : ℕ
  pub below : at < n
  pub here : f at ≡ r

-- r is the greatest of f 0, .. f (n - 1), or 0 where there is none above it: none of them is greater, and it is one of them.
pub record Greatest (f : ℕ → ℕ) (n r : ℕ) : Type 0 where
  pub most : (i : ℕ) → i < n → f i ≤ r
  pub one : 0 < r → Among f n r
