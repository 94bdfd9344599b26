-- Bytes written into a lent buffer from a position on.
use Rattle.std.specs.Prelude.{ℕ, ◌+◌, ◌≤◌, ◌≡◌, List, ◌++◌, length, take, drop}
use Rattle.buffer.specs.Buffer.{onto}

-- The buffer b was lent with a position, and left as b' with the position after the bytes, which are no more than most. What stood
-- before them and beyond them stands there still.
pub record Appended (most : ℕ) (bytes : List ℕ) (at : ℕ) (b : List ℕ) (at' : ℕ) (b' : List ℕ) : Type 0 where
  pub within : at ≤ length b
  pub few : length bytes ≤ most
  pub next : at' ≡ at + length bytes
  pub held : b' ≡ take at b ++ onto bytes (drop at b)
