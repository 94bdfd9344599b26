-- A row of the level, before and after its visit.
-- Assumes nothing.
use Prim.Native.Nat.{ℕ, ◌+◌, ◌<◌}
use mathlib.Core.Path.{◌≡◌, sym}
use mathlib.Core.List.{List}
use lib.ListN.{set}
use Rattle.bounds.specs.Workspace.{bounds_from, bound}
use Rattle.sweep.specs.Progress.{Searched, Onward, Sweeping}
use Rattle.bounds.specs.declared.Job.{Job}
use Rattle.sweep.specs.declared.Found.{Found}
use Rattle.sweep.specs.declared.Totals.{Totals}
use Rattle.sweep.proofs.Step.{lowered_sweep, lowered_lays}

pub sweeping_entered : (j : Job) (level p : ℕ) (ws b : List ℕ) (k : Totals) → level ≡ bound j ws p → Sweeping j (bound j ws p) p ws b k → Sweeping j level p ws b k
sweeping_entered j level p ws b k e w = rw e w

pub sweeping_left : (j : Job) (level from p : ℕ) (ws ws' b' : List ℕ) (k' : Totals) → level ≡ bound j ws p → Sweeping j level from ws' b' k' → Sweeping j (bound j ws p) from ws' b' k'
sweeping_left j level from p ws ws' b' k' e w = rw e at w

-- A shorter run is the row's new bound.
module _ (j : Job) (level p : ℕ) (ws b : List ℕ) (k : Totals) (f : Found) (read : level ≡ bound j ws p) (w : Sweeping j (bound j ws p) p ws b k) (inside : p < j.n) (r : Searched j ws level p f) where
  module _ (short : f.len ≡ level → ⊥) (ws' : List ℕ) (made : ws' ≡ set ws (bounds_from j + p) f.len) where
    pub sweeping_lowered : Sweeping j (bound j ws p) (p + 1) ws' b k
    sweeping_lowered = sweeping_left j level (p + 1) p ws ws' b k read (lowered_sweep j level p ws b k f (sweeping_entered j level p ws b k read w) inside (sym read) r short ws' made)

    pub sweeping_onward : Onward j ws b k ws' b k
    sweeping_onward = lowered_lays j level p ws b k f (sweeping_entered j level p ws b k read w) inside (sym read) r short ws' made
