-- `sweep::bound_by` meets its contract: the other row is asked only where it is there.
-- Assumes nothing.
use Rattle.sweep.proofs.Told.{by_before, by_past, by_row}
use Rattle.sweep.proofs.bound_by.Goals as goal

pub returns-then-q-from : goal.returns-then-q-from
returns-then-q-from c = search by_before

pub returns-then-view-q : goal.returns-then-view-q
returns-then-view-q c = search by_past

pub returns : goal.returns
returns c = search by_row
