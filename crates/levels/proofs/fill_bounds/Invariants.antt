-- `levels::fill_bounds` meets its contract: at the head of each turn the rows from the stretch's end on have their bounds, none of those after the
-- stretch that were passed over is free, and the engine's tables hold what they held.
-- Assumes nothing.
use mathlib.Core.Path.{◌≡◌}
use Rattle.bounds.specs.declared.Job.{Job}
use Rattle.sweep.proofs.Bounds.{Stretching}
use Rattle.levels.proofs.fill_bounds.Given as goal

abbrev pub invariant-loop-part : goal.invariant-loop-part
invariant-loop-part g l =
    Stretching l.job l.initial.ws l.ws l.part.from.0 l.part.to.0
    × g.E.Engine.Serves l.engine l.job l.ws
    × g.E.Engine.Fills l.engine l.job l.ws
    × (g.E.Engine.tables l.engine ≡ g.E.Engine.tables l.initial.engine)
    × ((j : Job) → g.E.Engine.least l.engine j ≡ g.E.Engine.least l.initial.engine j)

abbrev pub decreases-loop-part : goal.decreases-loop-part
decreases-loop-part g l = l.part.to.0
