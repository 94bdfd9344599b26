-- `levels::lay_levels` meets its contract: at the head of each turn no bound exceeds the level, and a sweep leaves every bound below it; the
-- engine's tables hold what they held.
-- Assumes nothing.
use mathlib.Core.Path.{◌∙◌}
use Rattle.sweep.proofs.Turn.{few_covered, few_fillable, level_more, level_done}
use Rattle.levels.proofs.lay_levels.Goals as goal

pub at_goal-requires : goal.at_goal-requires
at_goal-requires g c = let level = c.loop-level.invariant.0 in (search few_covered, search few_fillable)

pub loop-level-preserved : goal.loop-level-preserved
loop-level-preserved g c = let e = c.sweep_rows-sum.ensures in let level = c.loop-level.invariant.0 in
    (search level_more, e.serves, e.tables_kept ∙ c.loop-level.invariant.2, λ j. e.least_kept j ∙ c.loop-level.invariant.3 j)

pub returns-after-loop-level-clause-finished : goal.returns-after-loop-level-clause-finished
returns-after-loop-level-clause-finished g c = let level = c.loop-level.invariant.0 in rw (← c.least_run-least.ensures) (search level_done)
