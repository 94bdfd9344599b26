-- The walk along the tiles that fills the entries. No reader of the service's contract needs it.
use Rattle.std.specs.Prelude.{ℕ, ◌+◌, ◌≤◌, true, false, ◌≡◌, List, [], ◌∷◌, leb, length, drop}
use Rattle.tiling.specs.Listing.{Entry, covered}

-- The tiles that a list begins with, down to the first that is shorter.
unfoldable pub first_long : ℕ → List Entry → List Entry
first_long least [] = []
first_long least (e ∷ es) = elim (leb least e.len) [ true ↦ e ∷ first_long least es | false ↦ [] ]

-- What those of at least k + 1 words cover.
abbrev pub cover_of : List Entry → ℕ → ℕ
cover_of tiles k = covered (first_long (k + 1) tiles)

-- So many tiles are passed, which cover so many words. For each length up to this one, what the first tiles that have it cover is that,
-- and what those that follow cover.
pub record Walked (tiles : List Entry) (least passed words : ℕ) : Type 0 where
  pub within : passed ≤ length tiles
  pub sum : (n : ℕ) → n ≤ least → covered (first_long n tiles) ≡ words + covered (first_long n (drop passed tiles))
