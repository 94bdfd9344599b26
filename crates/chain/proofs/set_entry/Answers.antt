-- `chain::set_entry` meets its contract: each half has room for its number.
-- Assumes nothing.
use Rattle.chain.proofs.Entry.{entry_is}
use Rattle.chain.proofs.set_entry.Goals as goal

pub returns : goal.returns
returns c = search entry_is
