-- `tile::list_tile` meets its contract: what is left of the buffer begins after the listed tiles, and the tile's words go to its start, in the
-- order of the two sequences as handed in.
-- Assumes nothing.
use Rattle.tile.proofs.Tail.{tail_straight, tail_crossed}
use Rattle.tile.proofs.list_tile.Goals as goal

pub returns-then-straight : goal.returns-then-straight
returns-then-straight c = search tail_straight

pub returns-else-straight : goal.returns-else-straight
returns-else-straight c = search tail_crossed
