-- `lengths::Windows::climb` meets its contract: at the head of each turn what is still to be tried gives what was to be tried.
-- Assumes nothing.
use Rattle.lengths.proofs.Choice.{climbing_found, climbing_over, climbing_more, climbing_done}
use Rattle.lengths.proofs.Windows.climb.Goals as goal

pub returns-then-now-ge44 : goal.returns-then-now-ge44
returns-then-now-ge44 c = search climbing_found

pub returns-then-now-before : goal.returns-then-now-before
returns-then-now-before c = search climbing_over

pub loop-preserved : goal.loop-preserved
loop-preserved c = search climbing_more

pub returns : goal.returns
returns c = search climbing_done
