-- What is left of a free stretch on either side of a tile. No reader of the engines' contracts needs these.
use Rattle.std.specs.Prelude.{ℕ, zero, suc, ◌+◌, ◌≤◌, ◌<◌, ◌≡◌, true, false, List, [], ◌∷◌, leb, length, get_or}

-- How many free words a list ends with, where so many stand right before it.
unfoldable pub free_last : ℕ → List ℕ → ℕ
free_last before [] = before
free_last before (zero ∷ ws) = free_last 0 ws
free_last before (suc w ∷ ws) = free_last (suc before) ws

-- A length below the minimum; a longer one counts 0.
unfoldable pub if_short : ℕ → ℕ → ℕ
if_short minimum len = elim (leb minimum len) [ true ↦ 0 | false ↦ len ]

-- A tile of at least the minimum lies on free words.
pub record OnFree (minimum p len : ℕ) (pattern : List ℕ) : Type 0 where
  pub least : 1 ≤ minimum
  pub long : minimum ≤ len
  pub within : p + len ≤ length pattern
  pub free : (i : ℕ) → i < len → get_or pattern (p + i) 0 ≡ 0 → ⊥
