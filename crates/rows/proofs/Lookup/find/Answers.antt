-- `rows::find` meets its contract: what its own words and another row tell is asked first.
-- Assumes nothing.
use Rattle.rows.proofs.Bounds.{looked_told, looked_found}
use Rattle.rows.proofs.Lookup.find.Goals as goal

pub returns-then-known-cap : goal.returns-then-known-cap
returns-then-known-cap c = search looked_told

pub returns : goal.returns
returns c = search looked_found
