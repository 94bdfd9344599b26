-- `bounds::greatest_of_block` meets its contract: at the head of each turn `most` is the greatest of the words before this one.
-- Assumes nothing.
use Rattle.bounds.proofs.Most.{Seen}
use Rattle.bounds.proofs.greatest_of_block.Given as goal

abbrev pub invariant-loop-word : goal.invariant-loop-word
invariant-loop-word l = Seen l.block l.word-index l.most
