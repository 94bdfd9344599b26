-- `symbol::is_sound` meets its contract: it is one of the two kinds.
-- Assumes nothing.
use Rattle.symbol.proofs.Word.{sound_test}
use Rattle.symbol.proofs.is_sound.Goals as goal

pub returns : goal.returns
returns c = search sound_test
