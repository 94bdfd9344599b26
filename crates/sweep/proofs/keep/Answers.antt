-- `sweep::keep` meets its contract: the new run is kept just where it is longer.
-- Assumes nothing.
use Rattle.sweep.proofs.Row.{better_new, better_old}
use Rattle.sweep.proofs.keep.Goals as goal

pub returns-then-found-len : goal.returns-then-found-len
returns-then-found-len c = search better_new

pub returns : goal.returns
returns c = search better_old
