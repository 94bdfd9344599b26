-- `lengths::part_of` meets its contract.
-- Assumes nothing.
use Rattle.lengths.proofs.Choice.{part_quarter, part_half}
use Rattle.lengths.proofs.part_of.Goals as goal

pub returns-then-n-covered : goal.returns-then-n-covered
returns-then-n-covered c = search part_quarter

pub returns : goal.returns
returns c = search part_half
