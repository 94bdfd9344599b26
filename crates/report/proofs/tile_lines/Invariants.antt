-- `report::tile_lines` meets its contract: the lines of the tiles that were taken are written, and the others are left.
-- Assumes nothing.
use Rattle.report.proofs.Tiles.{Lining}
use Rattle.report.proofs.tile_lines.Given as goal

abbrev pub invariant-loop-tile : goal.invariant-loop-tile
invariant-loop-tile l = Lining l.tiles l.count l.at l.initial.out l.end l.out l.tile-iterator.rest.now l.tile-iterator.size l.yielded
