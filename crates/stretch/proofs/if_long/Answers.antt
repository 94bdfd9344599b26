-- `stretch::if_long` meets its contract: as the code tests it.
-- Assumes nothing.
use Rattle.stretch.proofs.Fillable.{long_is, short_is}
use Rattle.stretch.proofs.if_long.Goals as goal

pub returns-then-minimum-n : goal.returns-then-minimum-n
returns-then-minimum-n c = search long_is

pub returns : goal.returns
returns c = search short_is
