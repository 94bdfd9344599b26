-- Where a comparison stops. No reader of the engines' contracts needs these.
use Rattle.std.specs.Prelude.{ℕ, ◌+◌, Bool, ◌||◌, List, leb, ltb}
use Rattle.tiling.specs.Tiling.{Tile, on_pattern, size}
use Rattle.tiling.specs.Stretch.{fillable}
use Rattle.tiling.specs.Until.{Far, until}
use Rattle.sweep.specs.declared.Goal.{Goal}
use Rattle.sweep.specs.declared.Totals.{Totals}

-- As many words are covered as are enough, or fewer than are needed can still be.
abbrev pub stops_at : Goal → ℕ → ℕ → Bool
stops_at g covered fillable = leb g.enough covered || ltb (covered + fillable) g.needed

-- A comparison is at its goal, by its record.
unfoldable pub at_goal : Totals → Bool
at_goal k = stops_at k.goal k.covered k.fillable

-- The same by how far it has come, at a minimum.
unfoldable pub stopped : Goal → ℕ → Far → Bool
stopped g minimum f = stops_at g f.covered (fillable minimum f.pattern)

-- The first tiles of a list, until the goal.
abbrev pub until_goal : Goal → ℕ → Far → List Tile → List Tile
until_goal g minimum f tiles = until on_pattern size (stopped g minimum) f tiles
