-- `lines::phrase` meets its contract: the numbers follow the word.
-- Assumes nothing.
use Rattle.lines.proofs.Appended.{both}
use Rattle.lines.proofs.phrase.Goals as goal

pub returns : goal.returns
returns c = search both
