-- `lengths::Windows::mark` meets its contract: at the head of each turn the places of the windows from the i-th on are marked.
-- Assumes nothing.
use Rattle.lengths.proofs.Samples.{marking_none, marking_more}
use borrow.Author.Rules.{rules}
use Rattle.lengths.proofs.Windows.mark.Goals as goal

pub loop-i-init : goal.loop-i-init
loop-i-init c = search marking_none

pub loop-i-preserved : goal.loop-i-preserved
loop-i-preserved c = search (marking_more, rules)
