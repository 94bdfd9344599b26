-- What an engine may count on while bounds fall and tiles are laid. No reader of the engines' contracts needs it.
use Rattle.std.specs.Prelude.{ℕ, ◌+◌, ◌≤◌, ◌<◌, ◌≡◌, List, get_or}
use Rattle.tiling.specs.Tiling.{run_at}
use Rattle.bounds.specs.Workspace.{state, bounds_from, chains_from}
use Rattle.bounds.specs.declared.Job.{Job}

-- The workspace changed: no run is longer, and what stands between the sequences and the bounds, and between the bounds and the chains, is as
-- it was.
pub record Kept (j : Job) (ws ws' : List ℕ) : Type 0 where
  pub shrinks : (p u : ℕ) → run_at (state j ws') p u ≤ run_at (state j ws) p u
  pub hashes : (a : ℕ) → j.n + j.m ≤ a → a < bounds_from j → get_or ws' a 0 ≡ get_or ws a 0
  pub links : (a : ℕ) → bounds_from j + j.n ≤ a → a < chains_from j → get_or ws' a 0 ≡ get_or ws a 0

-- A run of so many words is one, and long enough for a tile.
pub record Enough (j : Job) (least : ℕ) : Type 0 where
  pub some : 1 ≤ least
  pub long : j.minimum ≤ least
