-- `measure::blocks_passed` meets its contract: at the head of each turn n pairs are passed, in whole blocks, by any test that the calls
-- are answered by, and the loop ends where a part has too few words for another block, or at a block that has a pair that does not pass.
-- Assumes nothing.
use Prim.Native.Nat.{◌-◌, ◌≤◌}
use lib.ListN.{length}
use Rattle.tiling.specs.Run.{leading}
use Rattle.measure.specs.Tested.{Tested}
use Rattle.measure.proofs.Blocks.{Blocks}
use Rattle.measure.proofs.blocks_passed.Given as goal

abbrev pub invariant-loop-n : goal.invariant-loop-n
invariant-loop-n g l = Tested (goal.F-post g l.passes) (λ test. Blocks (leading test l.words l.others) l.n) × (l.n ≤ length l.words) × (l.n ≤ length l.others)

abbrev pub decreases-loop-n : goal.decreases-loop-n
decreases-loop-n g l = length l.words - l.n
