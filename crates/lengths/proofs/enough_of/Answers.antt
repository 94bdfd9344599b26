-- `lengths::enough_of` meets its contract, by its two cases.
-- Assumes nothing.
use Rattle.lengths.proofs.Choice.{enough_short, enough_long}
use Rattle.lengths.proofs.enough_of.Goals as goal

pub returns-then-n-le256 : goal.returns-then-n-le256
returns-then-n-le256 c = search enough_short

pub returns : goal.returns
returns c = search enough_long
