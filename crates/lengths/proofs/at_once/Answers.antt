-- `lengths::at_once` meets its contract: it is the definition.
-- Assumes nothing.
use Rattle.lengths.proofs.Choice.{at_once_is}
use Rattle.lengths.proofs.at_once.Goals as goal

pub returns : goal.returns
returns c = search at_once_is
