-- `window::fill_hashes` meets its contract: at the head of each turn the hashes before i stand in the buffer and h is the hash at i, which the
-- last store puts down where the last window begins; all are hashes of replaced words.
-- Assumes nothing.
use Rattle.std.proofs.Common.{map}
use Rattle.symbol.specs.Word.{replaced}
use Rattle.window.proofs.HashList.{Filled}
use Rattle.window.proofs.fill_hashes.Given as goal

abbrev pub invariant-loop-i : goal.invariant-loop-i
invariant-loop-i l = Filled l.b l.s (map replaced l.words) l.initial.buffer l.buffer l.h l.i
