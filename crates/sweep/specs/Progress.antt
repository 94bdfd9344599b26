-- The state of a comparison under way, as the functions of the engines hand it on. No reader of the engines' contracts needs these.
use Rattle.std.specs.Prelude.{ℕ, ◌+◌, ◌*◌, ◌/◌, ◌≤◌, ◌<◌, true, false, ◌≡◌, List, ◌++◌, map, length, take}
use Rattle.symbol.specs.Word.{is_call}
use Rattle.buffer.specs.Buffer.{onto}
use Rattle.tiling.specs.Tiling.{Tile, State, run_at, best, size, lay}
use Rattle.tiling.specs.Listing.{tile_words, covered}
use Rattle.tiling.specs.Tally.{tally}
use Rattle.tiling.specs.Stretch.{fillable}
use Rattle.tiling.specs.Until.{Far, unlaid}
use Rattle.tiling.specs.Greedy.{Greedy}
use Rattle.tile.specs.Listed.{listed}
use Rattle.chain.specs.Chain.{Free}
use Rattle.bounds.specs.Workspace.{Space, state, bound}
use Rattle.sweep.specs.Goal.{at_goal, until_goal}
use Rattle.sweep.specs.Settled.{pick}
use Rattle.sweep.specs.declared.Found.{Found}
use Rattle.bounds.specs.declared.Job.{Job}
use Rattle.sweep.specs.declared.Totals.{Totals}

-- Why everything fits: each tile has at least the minimum of words, and what is covered was free calls of the pattern. And what further tiles
-- may take of it is what the record of the comparison says.
pub record Fits (j : Job) (ws b : List ℕ) (k : Totals) : Type 0 where
  pub space : Space j ws
  pub least : 1 ≤ j.minimum
  pub most : j.minimum ≤ 256
  pub tile_room : k.goal.listed ≡ true → 3 * (j.n / j.minimum) ≤ length b
  pub each : k.count * j.minimum ≤ k.covered
  pub free : k.covered + tally is_call (take j.n ws) ≤ j.n
  pub left : k.fillable ≡ fillable j.minimum (state j ws).pattern

-- How far a comparison has come.
abbrev pub far : Job → List ℕ → Totals → Far
far j ws k = record { covered = k.covered; pattern = (state j ws).pattern }

-- Some tiles were laid from the state s₀ on and, where tiles are listed, listed from the start of the buffer b₀ on: whatever the greedy choice
-- lays from here, after them, is what it lays from s₀; and the goal was not reached before any of them.
pub record Laid (j : Job) (s₀ : State) (b₀ : List ℕ) (ws b : List ℕ) (k : Totals) : Type 0 where
  pub tiles : List Tile
  pub rest : (ls : List Tile) → Greedy best size lay j.minimum (state j ws) ls → Greedy best size lay j.minimum s₀ (tiles ++ ls)
  pub going : (ls : List Tile) → until_goal k.goal j.minimum (unlaid s₀.pattern) (tiles ++ ls) ≡ tiles ++ until_goal k.goal j.minimum (far j ws k) ls
  pub held : b ≡ pick k.goal.listed (onto (tile_words (map (listed j.straight) tiles)) b₀) b₀
  pub counted : k.count ≡ length tiles
  pub summed : k.covered ≡ covered (map (listed j.straight) tiles)

-- What was laid before is laid after, with more tiles at its end; and the goal is the same.
pub record Onward (j : Job) (ws b : List ℕ) (k : Totals) (ws' b' : List ℕ) (k' : Totals) : Type 0 where
  pub keeps : (s₀ : State) (b₀ : List ℕ) → Laid j s₀ b₀ ws b k → Laid j s₀ b₀ ws' b' k'
  pub aim : k'.goal ≡ k.goal

-- No run of a row exceeds its bound, no bound the level, and the rows before p are below the level.
pub record Bounded (j : Job) (ws : List ℕ) (level p : ℕ) : Type 0 where
  pub upper : (q t : ℕ) → q < j.n → run_at (state j ws) q t ≤ bound j ws q
  pub capped : (q : ℕ) → q < j.n → bound j ws q ≤ level
  pub passed : (q : ℕ) → q < p → bound j ws q < level

-- A sweep at a level, before row p.
pub record Sweeping (j : Job) (level p : ℕ) (ws b : List ℕ) (k : Totals) : Type 0 where
  pub fits : Fits j ws b k
  pub bounded : Bounded j ws level p
  pub long : j.minimum ≤ level
  pub within : p ≤ j.n

-- No run of a row exceeds its bound; and none of a row from `from` on.
abbrev pub Upper : Job → List ℕ → Type 0
Upper j ws = (q t : ℕ) → q < j.n → run_at (state j ws) q t ≤ bound j ws q

abbrev pub UpperFrom : Job → List ℕ → ℕ → Type 0
UpperFrom j ws from = (q t : ℕ) → from ≤ q → q < j.n → run_at (state j ws) q t ≤ bound j ws q

-- A sweep at a level is over: the comparison is at its goal, or every bound is below the level.
pub record Over (j : Job) (level : ℕ) (ws b : List ℕ) (k : Totals) : Type 0 where
  pub fits : Fits j ws b k
  pub upper : Upper j ws
  pub below : at_goal k ≡ false → (q : ℕ) → q < j.n → bound j ws q < level

-- The row at p was searched, or another row tells of it: no run of it exceeds the length found, which is at most the level. Where it is the
-- level, a run of that length is at the position found, and no position before has one.
pub record Searched (j : Job) (ws : List ℕ) (level p : ℕ) (f : Found) : Type 0 where
  pub small : f.len ≤ 2048
  pub within : f.len ≤ level
  pub most : (t : ℕ) → run_at (state j ws) p t ≤ f.len
  pub long : f.len ≡ level → run_at (state j ws) p f.t.0 ≡ level
  pub first : f.len ≡ level → (t : ℕ) → t < f.t.0 → run_at (state j ws) p t < level

-- No run of the row at p exceeds the length, and so many words fit there.
pub record RowBound (j : Job) (s : State) (p len : ℕ) : Type 0 where
  pub most : (u : ℕ) → run_at s p u ≤ len
  pub within : p + len ≤ j.n

-- The rows from `from` up to `to` are free, and are those to be filled next: all after them have their bounds, and the row at `to` has no run.
pub record NextRows (j : Job) (ws : List ℕ) (from to : ℕ) : Type 0 where
  pub ordered : from ≤ to
  pub within : to ≤ j.n
  pub free : (k : ℕ) → from ≤ k → k < to → Free (state j ws).pattern k
  pub none : RowBound j (state j ws) to 0
  pub upper : UpperFrom j ws to

-- The bounds of the rows from `from` on were filled, and the sequences are as they were.
pub record FilledFrom (j : Job) (ws ws' : List ℕ) (from : ℕ) : Type 0 where
  pub same : state j ws' ≡ state j ws
  pub space : Space j ws'
  pub upper : UpperFrom j ws' from

-- All bounds were, and the sequences are as they were.
pub record Filled (j : Job) (ws ws' : List ℕ) : Type 0 where
  pub same : state j ws' ≡ state j ws
  pub space : Space j ws'
  pub upper : Upper j ws'

-- Ready to lay tiles.
pub record Ready (j : Job) (ws b : List ℕ) (k : Totals) : Type 0 where
  pub fits : Fits j ws b k
  pub upper : Upper j ws

-- Every tile of at least s words was laid, so that nothing as long is left, or the comparison is at its goal.
pub record Finished (j : Job) (s : ℕ) (ws b : List ℕ) (k : Totals) (ws' b' : List ℕ) (k' : Totals) : Type 0 where
  pub fits : Fits j ws' b' k'
  pub onward : Onward j ws b k ws' b' k'
  pub short : at_goal k' ≡ false → (best (state j ws')).len < s
