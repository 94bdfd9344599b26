-- The end of a comparison: its workspace cleared; and that the goal of a whole one is never reached.
-- Assumes nothing.
use Prim.Native.Nat.{ℕ, ◌+◌, ◌≤◌}
use native.Mathlib.Omega.{arith}
use mathlib.Core.Path.{◌≡◌, refl, ◌∙◌}
use mathlib.Core.Bool.{false}
use mathlib.Core.List.{List}
use borrow.Author.Tests.{lt-leb, le-ltb}
use lib.ListN.{length, replicate}
use Rattle.tiling.specs.Run.{mark}
use Rattle.tile.proofs.Marking.{mark_all}
use Rattle.sweep.specs.Goal.{stops_at}
use Rattle.ends.specs.Ends.{whole_goal}

-- The workspace cleared.
pub cleared_all : (ws ws' : List ℕ) → ws' ≡ mark 0 (length ws) ws → ws' ≡ replicate (length ws) 0
cleared_all ws ws' e = e ∙ mark_all ws

-- The goal of a whole comparison is never reached.
pub never : (c n : ℕ) → c ≤ 2048 → stops_at whole_goal c n ≡ false
never c n h = rw (lt-leb 2049 c (omega arith), le-ltb (c + n) 0 (omega arith)) refl
