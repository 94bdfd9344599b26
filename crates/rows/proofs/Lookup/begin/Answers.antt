-- `rows::begin` meets its contract: only the words that stand again are counted.
-- Assumes nothing.
use Rattle.rows.proofs.Pairs.{row_repeats}
use Rattle.rows.proofs.Lookup.begin.Goals as goal

pub returns : goal.returns
returns c = search row_repeats
