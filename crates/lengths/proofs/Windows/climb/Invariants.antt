-- `lengths::Windows::climb` meets its contract: at the head of each turn what is still to be tried gives what was to be tried.
-- Assumes nothing.
use Rattle.lengths.proofs.Choice.{Climbing}
use Rattle.lengths.proofs.Windows.climb.Given as goal

abbrev pub invariant-loop : goal.invariant-loop
invariant-loop l = Climbing l.self.words.now l.self.multiplier l.s l.s l.few l.counter l.length l.before
