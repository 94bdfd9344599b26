-- `sweep::taken_over` meets its contract: it is the definition.
-- Assumes nothing.
use Rattle.sweep.proofs.Told.{taken_is}
use Rattle.sweep.proofs.taken_over.Goals as goal

pub returns : goal.returns
returns c = search taken_is
