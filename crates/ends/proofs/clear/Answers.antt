-- `ends::clear` meets its contract: every word is marked.
-- Assumes nothing.
use Rattle.ends.proofs.Closing.{cleared_all}
use Rattle.ends.proofs.clear.Goals as goal

pub returns : goal.returns
returns c = search cleared_all
