-- `ends::copy_replaced` meets its contract: words without a retired call are copied; of others the first i, replaced, stand in the buffer at the head of
-- each turn.
-- Assumes nothing.
use mathlib.Core.List.{map}
use Rattle.symbol.specs.Word.{replaced}
use Rattle.buffer.proofs.Buffer.{Copied}
use Rattle.ends.proofs.copy_replaced.Given as goal

abbrev pub invariant-loop-i : goal.invariant-loop-i
invariant-loop-i l = Copied (map replaced l.words) l.initial.buffer l.buffer l.i
