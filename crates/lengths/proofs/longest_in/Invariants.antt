-- `lengths::longest_in` meets its contract: at the head of each turn the stretch from i on and the longest one are known.
-- Assumes nothing.
use Rattle.lengths.proofs.Stretches.{Stretching}
use Rattle.lengths.proofs.longest_in.Given as goal

abbrev pub invariant-loop-i : goal.invariant-loop-i
invariant-loop-i l = Stretching l.words l.from l.i l.free l.most
