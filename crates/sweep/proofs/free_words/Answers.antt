-- `sweep::free_words` meets its contract: the last word is asked, and the calls are counted as the words that match themselves.
-- Assumes nothing.
use Rattle.sweep.proofs.Told.{free_all, free_some}
use Rattle.sweep.proofs.free_words.Goals as goal

pub returns-then-is_call : goal.returns-then-is_call
returns-then-is_call c = search free_all

pub returns : goal.returns
returns c = search free_some
