-- `lengths::Windows::differing` meets its contract: what is marked is counted.
-- Assumes nothing.
use Rattle.lengths.proofs.Samples.{different_none, different_counted}
use Rattle.lengths.proofs.Windows.differing.Goals as goal

pub returns-then-self-s : goal.returns-then-self-s
returns-then-self-s c = search different_none

pub returns : goal.returns
returns c = search different_counted
