-- `threshold::tell` meets its contract: what the tiles cover that were laid until the goal decides as all of them would.
-- Assumes nothing.
use Rattle.threshold.proofs.Telling.{told_is}
use Rattle.threshold.proofs.tell.Goals as goal

pub returns-clause-value : goal.returns-clause-value
returns-clause-value c = search told_is
