-- `levels::sweep_rows` meets its contract: each turn takes the sweep over one row whose bound is the level, and over those up to the next; the
-- engine's tables hold what they held.
-- Assumes nothing.
use Prim.Native.Nat.{◌-◌}
use mathlib.Core.Path.{◌≡◌}
use Rattle.bounds.specs.declared.Job.{Job}
use Rattle.sweep.proofs.Turn.{Swept}
use Rattle.levels.proofs.sweep_rows.Given as goal

abbrev pub invariant-loop-p : goal.invariant-loop-p
invariant-loop-p g l =
    Swept l.job l.level l.initial.ws l.initial.tiles l.initial.sum l.ws l.tiles l.sum l.blocks l.p.0
    × g.E.Engine.Serves l.engine l.job l.ws
    × (g.E.Engine.tables l.engine ≡ g.E.Engine.tables l.initial.engine)
    × ((j : Job) → g.E.Engine.least l.engine j ≡ g.E.Engine.least l.initial.engine j)

abbrev pub decreases-loop-p : goal.decreases-loop-p
decreases-loop-p g l = l.job.n - l.p.0
