-- `cover::fill` meets its contract: the entries from k on stand in the buffer, where the turn fills entry k - 1.
-- Assumes nothing.
use Rattle.cover.proofs.Entries.{entered_all}
use Rattle.cover.proofs.fill.Goals as goal

pub returns : goal.returns
returns c = search entered_all
