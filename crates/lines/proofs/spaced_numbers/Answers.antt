-- `lines::spaced_numbers` meets its contract: the numbers before the loop's are written.
-- Assumes nothing.
use Rattle.lines.proofs.Spaced.{spaced_none, spaced_more}
use Rattle.lines.proofs.spaced_numbers.Goals as goal

pub loop-n-init : goal.loop-n-init
loop-n-init c = search spaced_none

pub loop-n-preserved : goal.loop-n-preserved
loop-n-preserved c = search spaced_more
