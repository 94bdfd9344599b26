-- `chain::zero_blocks` meets its contract: at the head of each turn all words from n on are 0, and the block before them is looked at as a whole.
-- Assumes nothing.
use Rattle.chain.specs.Stretches.{ZeroTail}
use Rattle.chain.proofs.zero_blocks.Given as goal

abbrev pub invariant-loop-n : goal.invariant-loop-n
invariant-loop-n l = ZeroTail l.words l.n

abbrev pub decreases-loop-n : goal.decreases-loop-n
decreases-loop-n l = l.n
