-- `bounds::row_along` meets its contract: at the head of each turn no row after p up to q has the level for its bound, and rows between q and the
-- next free one are covered and have none.
-- Assumes nothing.
use Prim.Native.Nat.{◌-◌}
use native.Mathlib.Omega.{arith}
use mathlib.Core.Path.{◌≡◌}
use Rattle.bounds.proofs.Blocks.{past_linked, along_all}
use Rattle.bounds.proofs.LevelRows.row_along.Goals as goal

pub returns-then-row_linked-q : goal.returns-then-row_linked-q
returns-then-row_linked-q c = search (along_all, past_linked)

pub returns : goal.returns
returns c = let last : c.loop-q.q ≡ c.min-end.result - 1 = omega arith in
    let along = rw last at c.loop-q.invariant in search (along_all, past_linked)
