-- `chain::joined_from` meets its contract: where the last word does not have its neighbour for the previous one it stands alone; else all
-- words before it that have an entry of 0 are joined to it, and so is the one before those.
-- Assumes nothing.
use Rattle.chain.proofs.Stretches.{joined_whole, joined_at}
use Rattle.chain.proofs.FreeWords.joined_from.Goals as goal

pub returns-then-at-eq0 : goal.returns-then-at-eq0
returns-then-at-eq0 c = search joined_whole

pub returns : goal.returns
returns c = search joined_at
