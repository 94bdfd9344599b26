-- `bounds::set_blocks` meets its contract: at the head of each turn the blocks before b are set anew.
-- Assumes nothing.
use Prim.Native.Nat.{◌-◌}
use Rattle.bounds.proofs.Blocks.{Refreshing}
use Rattle.bounds.proofs.View.set_blocks.Given as goal

abbrev pub invariant-loop-b : goal.invariant-loop-b
invariant-loop-b l = Refreshing l.self.job l.self.words.now l.from l.to l.b l.initial.blocks l.blocks

abbrev pub decreases-loop-b : goal.decreases-loop-b
decreases-loop-b l = l.to - l.b
