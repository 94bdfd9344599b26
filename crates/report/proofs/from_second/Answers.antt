-- `report::from_second` meets its contract: what was read is the second record's sequence.
-- Assumes nothing.
use Rattle.refusal.proofs.Causes.{never_none}
use Rattle.report.proofs.Records.{second_refused, second_accepted}
use Rattle.report.proofs.from_second.Goals as goal

pub returns-in-Err : goal.returns-in-Err
returns-in-Err c = second_refused _ _ _ _ _ c.in-Err.ensures (never_none _) c.refused_line.ensures _ _ _

pub returns-in-Ok : goal.returns-in-Ok
returns-in-Ok c = second_accepted _ _ _ _ _ _ c.in-Ok.ensures _ _ _ c.compare.ensures
