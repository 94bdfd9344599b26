-- What a comparison has laid when it is at its end. No reader of the engines' contracts needs it.
use Rattle.std.specs.Prelude.{ℕ, ◌+◌, ◌*◌, ◌/◌, ◌≤◌, min, Bool, true, false, ◌≡◌, List, length}
use Rattle.buffer.specs.Buffer.{onto}
use Rattle.tiling.specs.Listing.{Entry, listing, tile_words, covered}
use Rattle.tiling.specs.Until.{first_listed}
use Rattle.sweep.specs.Goal.{stops_at, stopped}
use Rattle.sweep.specs.Settled.{pick}
use Rattle.sweep.specs.declared.Goal.{Goal}
use Rattle.sweep.specs.declared.Totals.{Totals}

-- Room for a comparison with a goal: a workspace, and a tile buffer where tiles are listed. Of all buffers only the lengths count.
pub record Room (first second minimum : ℕ) (goal : Goal) (workspace tiles : ℕ) : Type 0 where
  pub work_room : 4 * (first + second) ≤ workspace
  pub tile_room : goal.listed ≡ true → 3 * (min first second / minimum) ≤ tiles

-- The tiles are counted and, where tiles are listed, listed from the start of the buffer on.
pub record Listed (lists : Bool) (tiles : List Entry) (b b' : List ℕ) (k : Totals) : Type 0 where
  pub held : b' ≡ pick lists (onto (tile_words tiles) b) b
  pub counted : k.count ≡ length tiles
  pub summed : k.covered ≡ covered tiles

-- The tiles of two sequences were laid until the goal: the first of the listing, and all of it where the goal is not reached. They are few, and so are the words.
pub record Ran (first second : List ℕ) (minimum : ℕ) (goal : Goal) (b b' : List ℕ) (k : Totals) : Type 0 where
  pub laid : Listed goal.listed (first_listed (stopped goal minimum) first second minimum) b b' k
  pub all : stops_at goal k.covered k.fillable ≡ false → first_listed (stopped goal minimum) first second minimum ≡ listing first second minimum
  pub few_tiles : k.count ≤ 2048
  pub few_covered : k.covered ≤ 2048
  pub few_words : length first + length second ≤ 4096
