-- `tile::shift` meets its contract: the difference of two numbers below 2,048 fits 32 bits, so that nothing wraps.
-- Assumes nothing.
use Rattle.tile.proofs.Difference.{shifted}
use Rattle.tile.proofs.shift.Goals as goal

pub returns : goal.returns
returns c = search shifted
