-- `index::Index::hash_row_stretch` meets its contract: a stretch that is shorter than a window has none that is free.
-- Assumes nothing.
use Rattle.index.proofs.Rows.{rows_short}
use Rattle.index.proofs.Index.hash_row_stretch.Goals as goal

pub returns-then-rows-self-clause-rows_from : goal.returns-then-rows-self-clause-rows_from
returns-then-rows-self-clause-rows_from c = search rows_short
