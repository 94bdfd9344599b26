-- `lines::spaced_number` meets its contract: the number follows a space.
-- Assumes nothing.
use Rattle.lines.proofs.Spaced.{spaced_one}
use Rattle.lines.proofs.spaced_number.Goals as goal

pub returns : goal.returns
returns c = search spaced_one
