-- `lengths::Windows::short_length` meets its contract: at the head of each turn what is still to be tried gives what was to be tried.
-- Assumes nothing.
use Rattle.lengths.proofs.Choice.{trying_found, trying_more, trying_done}
use Rattle.lengths.proofs.Windows.short_length.Goals as goal

pub returns-then-pays : goal.returns-then-pays
returns-then-pays c = search trying_found

pub loop-preserved : goal.loop-preserved
loop-preserved c = search trying_more

pub returns : goal.returns
returns c = search trying_done
