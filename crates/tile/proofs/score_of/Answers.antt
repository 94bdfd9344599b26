-- `tile::score_of` meets its contract: the quotient is the score by definition, and 2,000 times 2,048 fits 32 bits.
-- Assumes nothing.
use Rattle.tile.proofs.Score.{score_none, score_some}
use Rattle.tile.proofs.score_of.Goals as goal

pub returns-then-total-eq0 : goal.returns-then-total-eq0
returns-then-total-eq0 c = search score_none

pub returns : goal.returns
returns c = search score_some
