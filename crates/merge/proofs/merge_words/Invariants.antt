-- `merge::merge_words` meets its contract: before turn i the first i merged words stand at the start of the buffer, and the rest is as it was.
-- Assumes nothing.
use Rattle.merge.proofs.Merging.{Merging}
use Rattle.merge.proofs.merge_words.Given as goal

abbrev pub invariant-loop-i : goal.invariant-loop-i
invariant-loop-i l = Merging l.first l.second l.initial.buffer l.buffer l.i
