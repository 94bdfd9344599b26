-- `threshold::words_for` meets its contract: the quotient is rounded up.
-- Assumes nothing.
use Rattle.threshold.proofs.Words.{words_none, words_some}
use Rattle.threshold.proofs.words_for.Goals as goal

pub returns-then-total-eq0 : goal.returns-then-total-eq0
returns-then-total-eq0 c = search words_none

pub returns : goal.returns
returns c = search words_some
