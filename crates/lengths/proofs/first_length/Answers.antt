-- `lengths::first_length` meets its contract: the part is the pattern.
-- Assumes nothing.
use Rattle.lengths.proofs.Choice.{first_short, first_many, first_longer}
use Rattle.lengths.proofs.first_length.Goals as goal

pub returns-then-at_once : goal.returns-then-at_once
returns-then-at_once c = search first_short

pub returns-then-enough_of-few : goal.returns-then-enough_of-few
returns-then-enough_of-few c = search first_many

pub returns : goal.returns
returns c = search first_longer
