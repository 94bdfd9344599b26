-- `lines::line` meets its contract: the end of the line follows the phrase.
-- Assumes nothing.
use Rattle.lines.proofs.Appended.{both}
use Rattle.lines.specs.Text.{ascii}
use Rattle.lines.proofs.line.Goals as goal

pub returns : goal.returns
unfolding ascii
returns c = search both
