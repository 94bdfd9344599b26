-- `lengths::Windows::short_length` meets its contract: at the head of each turn what is still to be tried gives what was to be tried.
-- Assumes nothing.
use Rattle.lengths.proofs.Choice.{Trying}
use Rattle.lengths.proofs.Windows.short_length.Given as goal

abbrev pub invariant-loop : goal.invariant-loop
invariant-loop l = Trying l.self.words.now l.self.multiplier l.s l.counter l.length
