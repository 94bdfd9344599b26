-- `levels::sweep_rows` meets its contract: each turn takes the sweep over one row whose bound is the level, and over those up to the next; the
-- engine's tables hold what they held.
-- Assumes nothing.
use mathlib.Core.Path.{◌∙◌}
use Rattle.sweep.proofs.Turn.{few_covered, few_fillable, swept_more}
use Rattle.levels.proofs.sweep_rows.Goals as goal

pub at_goal-requires : goal.at_goal-requires
at_goal-requires g c = let swept = c.loop-p.invariant.0 in (search few_covered, search few_fillable)

pub loop-p-preserved : goal.loop-p-preserved
loop-p-preserved g c = let e = c.step-sum.ensures in let swept = c.loop-p.invariant.0 in
    (search swept_more, e.serves, e.tables_kept ∙ c.loop-p.invariant.2, λ j. e.least_kept j ∙ c.loop-p.invariant.3 j)
