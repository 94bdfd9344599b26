-- Two comparisons that cannot be told apart.
use Rattle.std.specs.Prelude.{◌≡◌, List, ℕ}
use Rattle.tiling.specs.declared.Compared.{Compared}

-- "the same tiles in the same order, the same tile count, covered count and score": equal answers, and every word of workspace and tile
-- buffer equal.
pub record Equal (a : Compared) (ws b : List ℕ) (a' : Compared) (ws' b' : List ℕ) : Type 0 where
  pub answer : a ≡ a'
  pub workspace : ws ≡ ws'
  pub tiles : b ≡ b'
