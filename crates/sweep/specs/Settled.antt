-- What is left after a tile was laid and listed. No reader of the engines' contracts needs these.
use Rattle.std.specs.Prelude.{ℕ, ◌+◌, ◌*◌, Bool, true, false, List, [], ◌∷◌, ◌++◌, eqb, take, drop}
use Rattle.buffer.specs.Buffer.{onto}
use Rattle.tiling.specs.Run.{mark}
use Rattle.tiling.specs.Tiling.{Tile}
use Rattle.tiling.specs.Listing.{tile_words}
use Rattle.tiling.specs.Stretch.{fillable}
use Rattle.tile.specs.Listed.{listed}
use Rattle.bounds.specs.Workspace.{state}
use Rattle.bounds.specs.declared.Job.{Job}
use Rattle.sweep.specs.declared.Totals.{Totals}

-- One of two, by a test.
abbrev pub pick : {A : Type 0} → Bool → A → A → A
pick true a b = a
pick false a b = b

-- The tile buffer with one tile after those that it has, where tiles are listed.
abbrev pub one_more : Job → Totals → Tile → List ℕ → List ℕ
one_more j k next b =
    pick k.goal.listed (take (3 * k.count) b ++ onto (tile_words (listed j.straight next ∷ [])) (drop (3 * k.count) b)) b

-- The record of the comparison after a tile of len words at p.
abbrev pub laid_totals : Job → ℕ → ℕ → List ℕ → Totals → Totals
laid_totals j p len ws k =
    record { count = k.count + 1; covered = k.covered + len; fillable = fillable j.minimum (mark p len (state j ws).pattern); goal = k.goal }

-- How many rows from that one on have a new bound.
unfoldable pub settled_rows : Totals → Totals → ℕ → ℕ
settled_rows before after level = elim (eqb before.count after.count) [ true ↦ 1 | false ↦ level ]
