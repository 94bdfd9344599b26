-- `cover::fill` meets its contract: the entries from k on stand in the buffer, where the turn fills entry k - 1.
-- Assumes nothing.
use Rattle.cover.proofs.Entries.{Entered}
use Rattle.cover.proofs.fill.Given as goal

abbrev pub invariant-loop-k : goal.invariant-loop-k
invariant-loop-k l = Entered l.tiles l.count l.initial.cover l.cover l.k l.walk.passed l.walk.words
