-- `stretch::if_short` meets its contract: a stretch as long as the minimum counts 0, a shorter one its words.
-- Assumes nothing.
use Rattle.stretch.proofs.Sides.{counts_not, counts_all}
use Rattle.stretch.proofs.if_short.Goals as goal

pub returns-then-minimum-len : goal.returns-then-minimum-len
returns-then-minimum-len c = search counts_not

pub returns : goal.returns
returns c = search counts_all
