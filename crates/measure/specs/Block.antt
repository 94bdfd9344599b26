-- Words are looked at in blocks. No reader of the engines' contracts needs these.
use Rattle.std.specs.Prelude.{ℕ, ◌+◌, ◌*◌, ◌/◌, true, false, ◌&&◌, leb, ltb}

-- How many words a block has.
abbrev pub block : ℕ
block = 8

-- As many of n words as whole blocks have.
abbrev pub whole_blocks : ℕ → ℕ
whole_blocks n = n / block * block

-- A run of n words, of which one longer than best is looked for: one that ends in its first block counts as none where it is not longer
-- whatever its words are.
unfoldable pub counted : ℕ → ℕ → ℕ
counted best n = elim (ltb n block && leb block (best + 1)) [ true ↦ 0 | false ↦ n ]
