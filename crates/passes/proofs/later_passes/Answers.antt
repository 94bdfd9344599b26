-- `passes::later_passes` meets its contract: at the head of each turn nothing as long as the search length is left, and no run is longer than the
-- stretch.
-- Assumes nothing.
use Rattle.sweep.proofs.Turn.{few_covered, few_fillable}
use Rattle.passes.proofs.Passes.{resting_some, resting_most, resting_enough, resting_less, resting_more, resting_done}
use Rattle.passes.proofs.later_passes.Goals as goal

pub at_goal-requires : goal.at_goal-requires
at_goal-requires c = (search few_covered, search few_fillable)

pub at_length-now-requires : goal.at_length-now-requires
at_length-now-requires c = (search resting_some, search resting_most, search resting_enough)

pub loop-now-smaller : goal.loop-now-smaller
loop-now-smaller c = search resting_less

pub loop-now-preserved : goal.loop-now-preserved
loop-now-preserved c = search resting_more

pub returns-after-loop-now : goal.returns-after-loop-now
returns-after-loop-now c = search resting_done
