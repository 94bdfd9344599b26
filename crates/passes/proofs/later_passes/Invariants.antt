-- `passes::later_passes` meets its contract: at the head of each turn nothing as long as the search length is left, and no run is longer than the
-- stretch.
-- Assumes nothing.
use Rattle.passes.proofs.Passes.{Resting}
use Rattle.passes.proofs.later_passes.Given as goal

abbrev pub invariant-loop-now : goal.invariant-loop-now
invariant-loop-now l = Resting l.initial.now l.initial.ws l.initial.tiles l.initial.sum l.ws l.tiles l.sum l.now l.stretch

abbrev pub decreases-loop-now : goal.decreases-loop-now
decreases-loop-now l = l.now.s
