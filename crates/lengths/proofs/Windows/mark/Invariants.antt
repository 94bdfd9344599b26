-- `lengths::Windows::mark` meets its contract: at the head of each turn the places of the windows from the i-th on are marked.
-- Assumes nothing.
use Rattle.lengths.proofs.Samples.{Marking}
use Rattle.lengths.proofs.Windows.mark.Given as goal

abbrev pub invariant-loop-i : goal.invariant-loop-i
invariant-loop-i l = Marking l.self.words.now l.self.multiplier l.s l.step l.marked l.i
