-- `report::store_words` meets its contract: after i turns the first i words are stored, and in the end the buffer is full or fewer than four
-- bytes are left.
-- Assumes nothing.
use Rattle.report.proofs.Words.{Stored}
use Rattle.report.proofs.store_words.Given as goal

abbrev pub invariant-loop-i : goal.invariant-loop-i
invariant-loop-i l = Stored l.bytes l.initial.words l.words l.i
