-- Two words of a text, so far from a position each. No reader of the engine's contract needs this.
use Rattle.std.specs.Prelude.{ℕ, ◌+◌, ◌≡◌, List, get_or}

-- The text has a near words on from position i, and b far words on from it.
pub record SideBySide (ts : List ℕ) (near far a b i : ℕ) : Type 0 where
  pub here : get_or ts (i + near) 0 ≡ a
  pub beyond : get_or ts (i + far) 0 ≡ b
