-- `levels::fill_bounds` meets its contract: at the head of each turn the rows from the stretch's end on have their bounds, none of those after the
-- stretch that were passed over is free, and the engine's tables hold what they held.
-- Assumes nothing.
use borrow.Author.Rules.{rules}
use mathlib.Core.Path.{◌∙◌}
use Rattle.sweep.proofs.Bounds.{stretching_next, stretching_more, stretching_all}
use Rattle.levels.proofs.fill_bounds.Goals as goal

pub fill_stretch-requires : goal.fill_stretch-requires
fill_stretch-requires g c = let stretching = c.loop-part.invariant.0 in (search rules, search rules, search rules, search stretching_next)

pub loop-part-preserved : goal.loop-part-preserved
loop-part-preserved g c = let e = c.fill_stretch.ensures in let stretching = c.loop-part.invariant.0 in
    (search stretching_more, search rules, search rules, e.tables_kept ∙ c.loop-part.invariant.3, λ j. e.least_kept j ∙ c.loop-part.invariant.4 j)

pub returns-clause-filled : goal.returns-clause-filled
returns-clause-filled g c = let stretching = c.loop-part.invariant.0 in search stretching_all
