-- `report::closing_lines` meets its contract: its lines are written one after another.
-- Assumes nothing.
use Rattle.lines.specs.Text.{ascii}
use Rattle.report.proofs.Lines.{closed}
use Rattle.report.proofs.closing_lines.Goals as goal

pub returns : goal.returns
unfolding ascii
returns c = search closed
