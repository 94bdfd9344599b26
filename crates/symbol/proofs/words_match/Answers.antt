-- `symbol::words_match` meets its contract: the words are replaced, and the test is that of the definition.
-- Assumes nothing.
use Rattle.symbol.proofs.Retired.{match_by}
use Rattle.symbol.proofs.words_match.Goals as goal

pub returns : goal.returns
returns c = search match_by
