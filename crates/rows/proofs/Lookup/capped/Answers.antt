-- `rows::capped` meets its contract: what another row tells, cap itself and what a search finds are bounds.
-- Assumes nothing.
use Rattle.rows.proofs.Bounds.{bound_known}
use Rattle.rows.proofs.Lookup.capped.Goals as goal

pub returns-then-known-cap : goal.returns-then-known-cap
returns-then-known-cap c = search bound_known
