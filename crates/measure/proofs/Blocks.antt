-- Counting how many tests hold one after another, block by block. l is the count: a block holds where l is at least a block's length, and
-- the whole blocks that hold are counted.
-- Assumes nothing.
use Prim.Native.Nat.{ℕ, ◌+◌, ◌-◌, ◌%◌, ◌≤◌, ◌<◌}
use native.Mathlib.Omega.{arith}
use mathlib.Core.Path.{◌≡◌, sym, ◌∙◌}
use mathlib.Core.Bool.{Bool, true, false}
use borrow.Author.Tests.{leb-true, leb-false}
use lib.Dec.{leb}
use Rattle.measure.specs.Block.{block, whole_blocks}

-- ---- block after block: n tests hold, in whole blocks
pub record Blocks (l n : ℕ) : Type 0 where
  pub whole : n % block ≡ 0
  pub held : n ≤ l

-- Whether the next block holds: the count is n, and that of what follows.
module _ (l n after : ℕ) (b : Blocks l n) (e : l ≡ n + after) (r : Bool) (k : r ≡ leb block after) where
  pub blocks_more : r ≡ true → Blocks l (n + block)
  blocks_more t = record { whole = omega (arith, b.whole); held = omega (arith, leb-true block after (sym k ∙ t)) }

  pub blocks_stop : r ≡ false → n ≡ whole_blocks l
  blocks_stop f = omega (arith, b.whole, leb-false block after (sym k ∙ f))

-- Too little is left for another block.
pub blocks_end : (l n end : ℕ) → Blocks l n → l ≤ end → end - n < block → n ≡ whole_blocks l
blocks_end l n end b h k = omega (arith, b.whole, b.held)

pub blocks_within : (l n : ℕ) → n ≡ whole_blocks l → n ≤ l
blocks_within l n e = omega arith
