-- `rows::goes_on` meets its contract: position, hashes and words are tested in turn.
-- Assumes nothing.
use Rattle.rows.proofs.Bounds.{goes_not, goes_unlike, goes_by}
use Rattle.rows.proofs.Lookup.goes_on.Goals as goal

pub returns-then-self-before : goal.returns-then-self-before
returns-then-self-before c = search goes_not

pub returns-then-not-same_hash : goal.returns-then-not-same_hash
returns-then-not-same_hash c = search goes_unlike

pub returns : goal.returns
returns c = search goes_by
