-- `plain::capped` meets its contract: what another row tells, cap itself and what a search finds are bounds.
-- Assumes nothing.
use Rattle.plain.proofs.Fill.{bound_known}
use Rattle.plain.proofs.Scan.capped.Goals as goal

pub returns-then-known-cap : goal.returns-then-known-cap
returns-then-known-cap c = search bound_known
