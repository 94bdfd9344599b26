-- `lengths::left_of` meets its contract: nothing is asked where no pass is to come.
-- Assumes nothing.
use Rattle.lengths.proofs.Choice.{left_none, left_longest}
use Rattle.lengths.proofs.left_of.Goals as goal

pub returns-then-s-view : goal.returns-then-s-view
returns-then-s-view c = search left_none

pub returns : goal.returns
returns c = search left_longest
