-- `chain::before_of` meets its contract: it reads the upper half of the entry.
-- Assumes nothing.
use Rattle.chain.proofs.Entry.{before_is}
use Rattle.chain.proofs.before_of.Goals as goal

pub returns : goal.returns
returns c = search before_is
