-- `chain::stretch_before` meets its contract: the last free word before `end` ends the stretch, and the words that are joined to it are free, one
-- before another. The first of them does not have its neighbour for the previous one, so that neighbour is not free.
-- Assumes nothing.
use Rattle.chain.proofs.Stretches.{stretch_joined}
use Rattle.chain.proofs.FreeWords.stretch_before.Goals as goal

pub returns : goal.returns
returns c = search stretch_joined
