-- `bounds::greatest` meets its contract: at the head of each turn `most` is the greatest of the words before this one.
-- Assumes nothing.
use Rattle.bounds.proofs.Most.{seen_more}
use Rattle.bounds.proofs.greatest.Goals as goal

pub loop-word-preserved : goal.loop-word-preserved
loop-word-preserved c = search seen_more
