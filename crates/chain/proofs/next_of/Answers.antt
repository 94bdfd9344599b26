-- `chain::next_of` meets its contract: it reads the lower half of the entry.
-- Assumes nothing.
use Rattle.chain.proofs.Entry.{next_is}
use Rattle.chain.proofs.next_of.Goals as goal

pub returns : goal.returns
returns c = search next_is
