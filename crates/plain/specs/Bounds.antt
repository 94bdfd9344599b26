-- The bounds that the plain engine begins with. No reader of the engine's contract needs these.
use Rattle.std.specs.Prelude.{ℕ, ◌+◌, ◌≤◌, Bool, ◌&&◌, List, ltb, get_or}
use Rattle.symbol.specs.Word.{equal_calls}
use Rattle.tiling.specs.Tiling.{State, run_at}
use Rattle.sweep.specs.Row.{before}
use Rattle.bounds.specs.declared.Job.{Job}

-- No run of the row at p exceeds cap.
abbrev pub Capped : State → ℕ → ℕ → Type 0
Capped s p cap = (u : ℕ) → run_at s p u ≤ cap

-- The words at p and just before t are equal calls.
unfoldable pub goes_on : Job → List ℕ → ℕ → ℕ → Bool
goes_on j ws p t = ltb (before t j.m) j.m && equal_calls (get_or ws p 0) (get_or ws (j.n + before t j.m) 0)
