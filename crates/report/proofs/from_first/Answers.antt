-- `report::from_first` meets its contract: what was read is the first record's sequence, and the second record begins after its trailer.
-- Assumes nothing.
use Rattle.refusal.proofs.Causes.{never_none}
use Rattle.report.proofs.Records.{first_refused, first_accepted}
use Rattle.report.proofs.from_first.Goals as goal

pub returns-in-Err : goal.returns-in-Err
returns-in-Err c = first_refused _ _ _ _ _ c.in-Err.ensures (never_none _) c.refused_line.ensures _

pub returns-in-Ok : goal.returns-in-Ok
returns-in-Ok c = first_accepted _ _ _ _ _ _ c.in-Ok.ensures _ c.from_second.ensures
