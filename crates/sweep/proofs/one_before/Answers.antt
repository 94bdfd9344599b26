-- `sweep::one_before` meets its contract: it is the definition, by cases.
-- Assumes nothing.
use Rattle.sweep.proofs.Told.{before_first, before_next}
use Rattle.sweep.proofs.one_before.Goals as goal

pub returns-then-t-eq0 : goal.returns-then-t-eq0
returns-then-t-eq0 c = search before_first

pub returns : goal.returns
returns c = search before_next
