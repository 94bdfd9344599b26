-- The tiles as they are listed for the two sequences as handed in, and the numbers that a comparison answers.
use Rattle.std.specs.Prelude.{ℕ, zero, suc, ◌+◌, ◌*◌, ◌/◌, Bool, true, false, List, [], ◌∷◌, map, ℤ, pos, ◌-ℤ◌}
use Rattle.symbol.specs.Word.{replaced, equal_calls}
use Rattle.tiling.specs.Tiling.{Tile, State, start, tiling_by, tiling}
use Rattle.tiling.specs.Choice.{first_is_pattern}

-- A listed tile: "start on the first strand, start on the second strand, length. First and second mean as handed in, not
-- pattern and text."
pub record Entry : Type 0 where
  pub first : ℕ
  pub second : ℕ
  pub len : ℕ

abbrev pub straight : Tile → Entry
straight k = record { first = k.p; second = k.t; len = k.len }

abbrev pub crossed : Tile → Entry
crossed k = record { first = k.t; second = k.p; len = k.len }

-- Where a listed tile starts on the pattern, which is the first sequence where the flag is true.
abbrev pub start_on_pattern : Bool → Entry → ℕ
start_on_pattern true e = e.first
start_on_pattern false e = e.second

-- What a tiling of pattern and text lays for two sequences, of which the first or the second is the pattern.
abbrev pub listed_by : Bool → (State → List Tile) → List ℕ → List ℕ → List Entry
listed_by true tiles first second = map straight (tiles (start first second))
listed_by false tiles first second = map crossed (tiles (start second first))

unfoldable pub listing : List ℕ → List ℕ → ℕ → List Entry
listing first second minimum = listed_by (first_is_pattern first second) (tiling minimum) first second

-- "An outside comparison runs on strands replaced beforehand, except for the choice of pattern." (02, U4) It knows 01's match alone, and no
-- retired code.
unfoldable pub outside_listing : List ℕ → List ℕ → ℕ → List Entry
outside_listing first second minimum = listed_by (first_is_pattern first second) (tiling_by equal_calls minimum) (map replaced first) (map replaced second)

-- "A tile is three words in the tile buffer", in the order laid.
unfoldable pub tile_words : List Entry → List ℕ
tile_words [] = []
tile_words (e ∷ es) = e.first ∷ e.second ∷ e.len ∷ tile_words es

-- "Covered is the sum of tile lengths."
unfoldable pub covered : List Entry → ℕ
covered [] = 0
covered (e ∷ es) = e.len + covered es

-- "The score is 2,000 × covered divided by the sum of both lengths, rounded down; two empty strands score 0."
unfoldable pub score : ℕ → ℕ → ℕ
score covered zero = 0
score covered (suc total) = 2000 * covered / suc total

-- "The shift of a tile is its second start minus its first, a signed number from -2,047 to 2,047."
unfoldable pub shift : Entry → ℤ
shift e = pos e.second -ℤ pos e.first
