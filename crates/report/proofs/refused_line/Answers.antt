-- `report::refused_line` meets its contract: the line is the whole output.
-- Assumes nothing.
use Rattle.lines.specs.Text.{ascii}
use Rattle.report.proofs.Lines.{refused_written}
use Rattle.report.proofs.refused_line.Goals as goal

pub returns : goal.returns
unfolding ascii
returns c = rw (← c.from.ensures) (refused_written _ _ _ _ c.line.ensures)
