-- `report::compare` meets its contract: an accepted comparison's tiles are printed, and otherwise the refusal's number.
-- Assumes nothing.
use Rattle.report.proofs.Engine.{compared_accepted, compared_refused}
use Rattle.report.proofs.compare.Goals as goal

pub returns-in-Err : goal.returns-in-Err
returns-in-Err c = compared_refused _ _ _ _ _ _ _ _ _ c.in-Err.refusal c.in-Err.ensures c.refused_line.ensures

pub returns-in-Ok : goal.returns-in-Ok
returns-in-Ok c = compared_accepted _ _ _ _ _ _ _ _ _ c.in-Ok.sum c.in-Ok.ensures c.pair_lines.ensures
