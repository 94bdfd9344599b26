-- `sweep::settled_rows` meets its contract: a tile was laid just where there is one more.
-- Assumes nothing.
use Rattle.sweep.proofs.Settled.{settled_row, settled_tile}
use Rattle.sweep.proofs.settled_rows.Goals as goal

pub returns-then-before-after : goal.returns-then-before-after
returns-then-before-after c = search settled_row

pub returns : goal.returns
returns c = search settled_tile
