-- `chain::free_before` meets its contract: at the head of each turn no word from `end` up to `to` is free. A word that is not free leads back past
-- words that are not free either.
-- Assumes nothing.
use Rattle.chain.specs.Chain.{Free}
use Rattle.chain.proofs.Last.{Returning}
use Rattle.chain.proofs.FreeWords.free_before.Given as goal

abbrev pub invariant-loop-end : goal.invariant-loop-end
invariant-loop-end l = Returning (Free l.self.words.now) l.to l.end

abbrev pub decreases-loop-end : goal.decreases-loop-end
decreases-loop-end l = l.end
