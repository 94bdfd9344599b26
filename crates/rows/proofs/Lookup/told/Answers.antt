-- `rows::told` meets its contract: the row that is remembered is asked where its window has the same hash.
-- Assumes nothing.
use Rattle.rows.proofs.Bounds.{told_past, told_unlike, told_row}
use Rattle.rows.proofs.Lookup.told.Goals as goal

pub returns-then-self-q : goal.returns-then-self-q
returns-then-self-q c = search told_past

pub returns-then-pattern_hash-own : goal.returns-then-pattern_hash-own
returns-then-pattern_hash-own c = search told_unlike

pub returns : goal.returns
returns c = search told_row
