-- `report::tile_shift` meets its contract: a space, the shift with its sign, and the end of the line follow each other.
-- Assumes nothing.
use Rattle.lines.specs.Text.{ascii}
use Rattle.report.proofs.Lines.{shift_written}
use Rattle.report.proofs.tile_shift.Goals as goal

pub returns : goal.returns
unfolding ascii
returns c = search shift_written
