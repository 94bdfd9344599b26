-- `chain::free_from` meets its contract: at the head of each turn no word from `from` up to `at` is free. A word that is not free leads past words
-- that are not free either.
-- Assumes nothing.
use Prim.Native.Nat.{◌-◌}
use lib.ListN.{length}
use Rattle.chain.specs.Chain.{Free}
use Rattle.chain.specs.First.{Passing}
use Rattle.chain.proofs.FreeWords.free_from.Given as goal

abbrev pub invariant-loop-at : goal.invariant-loop-at
invariant-loop-at l = Passing (Free l.self.words.now) l.from (length l.self.words.now) l.at

abbrev pub decreases-loop-at : goal.decreases-loop-at
decreases-loop-at l = length l.self.words.now - l.at
