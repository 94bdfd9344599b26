-- `bounds::greatest_of_block` meets its contract: at the head of each turn `most` is the greatest of the words before this one.
-- Assumes nothing.
use borrow.Author.Rules.{rules}
use Rattle.bounds.proofs.Most.{seen_more}
use Rattle.bounds.proofs.greatest_of_block.Goals as goal

pub loop-word-preserved : goal.loop-word-preserved
loop-word-preserved c = search (rules, seen_more)
