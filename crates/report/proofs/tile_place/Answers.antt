-- `report::tile_place` meets its contract: the numbers follow each other.
-- Assumes nothing.
use Rattle.report.proofs.Lines.{place_written}
use Rattle.report.proofs.tile_place.Goals as goal

pub returns : goal.returns
returns c = search place_written
