-- `levels::lay_levels` meets its contract: at the head of each turn no bound exceeds the level, and a sweep leaves every bound below it; the
-- engine's tables hold what they held.
-- Assumes nothing.
use mathlib.Core.Path.{◌≡◌}
use Rattle.bounds.specs.declared.Job.{Job}
use Rattle.sweep.proofs.Turn.{Level}
use Rattle.levels.proofs.lay_levels.Given as goal

abbrev pub invariant-loop-level : goal.invariant-loop-level
invariant-loop-level g l =
    Level l.job l.least l.initial.ws l.initial.tiles l.initial.sum l.ws l.tiles l.sum l.blocks l.level
    × g.E.Engine.Serves l.engine l.job l.ws
    × (g.E.Engine.tables l.engine ≡ g.E.Engine.tables l.initial.engine)
    × ((j : Job) → g.E.Engine.least l.engine j ≡ g.E.Engine.least l.initial.engine j)

abbrev pub decreases-loop-level : goal.decreases-loop-level
decreases-loop-level g l = l.level
