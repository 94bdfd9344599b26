-- Laying a tile: what is left for further tiles is what there was, less what this one takes.
-- Assumes nothing.
use Prim.Native.Nat.{ℕ, ◌+◌, ◌-◌}
use native.Mathlib.Omega.{arith}
use mathlib.Core.Path.{◌≡◌, refl}
use mathlib.Core.Bool.{◌||◌}
use mathlib.Core.List.{List}
use lib.Dec.{leb, ltb}
use lib.ListN.{take, drop}
use Rattle.bounds.specs.Workspace.{state}
use Rattle.sweep.specs.Goal.{at_goal}
use Rattle.bounds.specs.declared.Job.{Job}
use Rattle.sweep.specs.declared.Totals.{Totals}

-- The pattern as a part of the workspace.
module _ (j : Job) (ws : List ℕ) (p len : ℕ) where
  front : take (j.n - 0) (drop 0 ws) ≡ (state j ws).pattern
  front = let e : j.n - 0 ≡ j.n = omega arith in rw e refl

-- The test of the goal, as the code asks it.
pub goal_asked : (k : Totals) → leb k.goal.enough k.covered || ltb (k.covered + k.fillable) k.goal.needed ≡ at_goal k
unfolding at_goal
goal_asked k = refl
