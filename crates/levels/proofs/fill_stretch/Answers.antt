-- `levels::fill_stretch` meets its contract: at the head of each turn the rows from p on have their bounds, the last of them caps the row before,
-- and the engine's tables hold what they held.
-- Assumes nothing.
use mathlib.Core.Path.{◌∙◌}
use Rattle.sweep.proofs.Bounds.{filling_more, before_inside}
use Rattle.levels.specs.Kept.{Kept}
use Rattle.levels.proofs.Keep.{kept_set}
use Rattle.levels.proofs.fill_stretch.Goals as goal

pub loop-p-preserved : goal.loop-p-preserved
loop-p-preserved g c = let e = c.row_bound-after.ensures in let filling = c.loop-p.invariant.0 in let bound = e.value in
    let changed = c.set_bound.ensures in
    let keeps : Kept c.args.job c.loop-p.ws c.set_bound.new.ws = search (kept_set, before_inside) in
    (search filling_more, g.met.E.Engine.kept _ _ _ _ keeps e.serves, g.met.E.Engine.fills_kept _ _ _ _ keeps e.serves e.fills, e.tables_kept ∙ c.loop-p.invariant.3, λ j. e.least_kept j ∙ c.loop-p.invariant.4 j)
