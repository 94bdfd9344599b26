-- `sweep::alike` meets its contract: the words are compared in parts that are cut after len + 1 of them, and where there are fewer the rows are not
-- so long.
-- Assumes nothing.
use Rattle.sweep.proofs.Told.{alike_short, alike_short_other, alike_is}
use Rattle.sweep.proofs.alike.Goals as goal

pub returns-then-view-a : goal.returns-then-view-a
returns-then-view-a c = search alike_short

pub returns-then-view-b : goal.returns-then-view-b
returns-then-view-b c = search alike_short_other

pub returns : goal.returns
returns c = search alike_is
