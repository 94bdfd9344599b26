-- `lengths::Windows::longer_length` meets its contract: each of its ways out is a case of the definition.
-- Assumes nothing.
use Rattle.lengths.proofs.Choice.{longer_short, longer_none, longer_climbed}
use Rattle.lengths.proofs.Windows.longer_length.Goals as goal

pub returns-then-short-gt0 : goal.returns-then-short-gt0
returns-then-short-gt0 c = search longer_short

pub returns-then-self-le256 : goal.returns-then-self-le256
returns-then-self-le256 c = search longer_none

pub returns : goal.returns
returns c = search longer_climbed
