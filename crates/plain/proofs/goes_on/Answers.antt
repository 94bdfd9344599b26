-- `plain::goes_on` meets its contract: the position is tested, and then the words.
-- Assumes nothing.
use Rattle.plain.proofs.Fill.{goes_not, goes_by}
use Rattle.plain.proofs.goes_on.Goals as goal

pub returns-then-view-before : goal.returns-then-view-before
returns-then-view-before c = search goes_not

pub returns : goal.returns
returns c = search goes_by
