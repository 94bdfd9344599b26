-- `index::Index::raise_rows` meets its contract: at the head of each turn the entries of the free windows from p on are set.
-- Assumes nothing.
use Prim.Native.Nat.{◌<◌}
use native.Mathlib.Omega.{arith}
use lib.ListN.{length}
use Rattle.index.proofs.Rows.{raising_more}
use Rattle.index.proofs.Index.raise_rows.Goals as goal

pub loop-p-preserved : goal.loop-p-preserved
loop-p-preserved c = let room : c.slot_of.result < length c.loop-p.filter = omega arith in search raising_more
