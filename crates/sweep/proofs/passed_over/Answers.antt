-- `sweep::passed_over` meets its contract, by its two cases.
-- Assumes nothing.
use Rattle.sweep.proofs.Passed.{passed_within, passed_beyond}
use Rattle.sweep.proofs.passed_over.Goals as goal

pub returns-then-len-again : goal.returns-then-len-again
returns-then-len-again c = search passed_within

pub returns : goal.returns
returns c = search passed_beyond
