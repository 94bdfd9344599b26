-- `chain::free_before` meets its contract: at the head of each turn no word from `end` up to `to` is free. A word that is not free leads back past
-- words that are not free either.
-- Assumes nothing.
use Rattle.chain.proofs.Stretches.{chain_back, chain_back_less}
use Rattle.chain.proofs.FreeWords.free_before.Goals as goal

pub loop-end-smaller : goal.loop-end-smaller
loop-end-smaller c = search chain_back_less

pub loop-end-preserved : goal.loop-end-preserved
loop-end-preserved c = search chain_back
