-- `bounds::next_block` meets its contract: at the head of each turn the blocks up to b are below the level.
-- Assumes nothing.
use Prim.Native.Nat.{◌≤◌}
use lib.ListN.{get_or}
use Rattle.chain.specs.First.{Passing}
use Rattle.bounds.proofs.next_block.Given as goal

abbrev pub invariant-loop-b : goal.invariant-loop-b
invariant-loop-b l = Passing (λ c. l.level ≤ get_or l.blocks c 0) l.fn.from l.count l.b
