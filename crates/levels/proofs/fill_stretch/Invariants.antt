-- `levels::fill_stretch` meets its contract: at the head of each turn the rows from p on have their bounds, the last of them caps the row before,
-- and the engine's tables hold what they held.
-- Assumes nothing.
use mathlib.Core.Path.{◌≡◌}
use Rattle.bounds.specs.declared.Job.{Job}
use Rattle.sweep.proofs.Bounds.{Filling}
use Rattle.levels.proofs.fill_stretch.Given as goal

abbrev pub invariant-loop-p : goal.invariant-loop-p
invariant-loop-p g l =
    Filling l.job l.initial.ws l.ws l.p-start l.p l.after.len
    × g.E.Engine.Serves l.engine l.job l.ws
    × g.E.Engine.Fills l.engine l.job l.ws
    × (g.E.Engine.tables l.engine ≡ g.E.Engine.tables l.initial.engine)
    × ((j : Job) → g.E.Engine.least l.engine j ≡ g.E.Engine.least l.initial.engine j)
