-- `lengths::longest_stretch` meets its contract: at the head of each turn the longest stretch of calls after the stretch of free words is known; words that are covered
-- are no calls.
-- Assumes nothing.
use Rattle.lengths.proofs.Stretches.{longest_all, part_none, part_short, part_inside, part_edge, part_here, part_ordered}
use Rattle.lengths.proofs.longest_stretch.Goals as goal

pub loop-part-init : goal.loop-part-init
loop-part-init c = search part_none

pub longest_in-most-requires : goal.longest_in-most-requires
longest_in-most-requires c = (search part_short, search part_ordered, search part_inside, search part_edge, search part_here)

pub returns : goal.returns
returns c = search longest_all
