-- `rows::run_at` meets its contract: the two parts are what is left of pattern and text.
-- Assumes nothing.
use Rattle.rows.proofs.Pairs.{run_of_parts}
use Rattle.rows.proofs.Lookup.run_at.Goals as goal

pub returns : goal.returns
returns c = search run_of_parts
