-- `report::tile_line` meets its contract: the shift that is printed is that of the tile.
-- Assumes nothing.
use Rattle.report.proofs.Lines.{tile_written}
use Rattle.report.proofs.tile_line.Goals as goal

pub returns : goal.returns
returns c = search tile_written
