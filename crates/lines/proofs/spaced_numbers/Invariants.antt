-- `lines::spaced_numbers` meets its contract: the numbers before the loop's are written.
-- Assumes nothing.
use Rattle.lines.proofs.Spaced.{Spaced}
use Rattle.lines.proofs.spaced_numbers.Given as goal

abbrev pub invariant-loop-n : goal.invariant-loop-n
invariant-loop-n l = Spaced l.numbers l.at l.initial.out l.end l.out l.n-index
