-- `buffer::copy` meets its contract: at the head of each turn the first i words stand in the buffer, and what follows them is as it was.
-- Assumes nothing.
use Rattle.buffer.proofs.Buffer.{Copied}
use Rattle.buffer.proofs.copy.Given as goal

abbrev pub invariant-loop-i : goal.invariant-loop-i
invariant-loop-i l = Copied l.words l.initial.buffer l.buffer l.i
