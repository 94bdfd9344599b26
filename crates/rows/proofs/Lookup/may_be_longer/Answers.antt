-- `rows::may_be_longer` meets its contract: the hashes and the words are tested in turn.
-- Assumes nothing.
use Rattle.rows.proofs.Pairs.{may_unlike, may_ended, may_words}
use Rattle.rows.proofs.Lookup.may_be_longer.Goals as goal

pub returns-then-not-same_hash : goal.returns-then-not-same_hash
returns-then-not-same_hash c = search may_unlike

pub returns-then-not-ends_alike : goal.returns-then-not-ends_alike
returns-then-not-ends_alike c = search may_ended

pub returns : goal.returns
returns c = search may_words
