-- `window::hash_windows` meets its contract: the words stand before the hashes and are left as they were, so at the head of each turn the
-- hashes before i stand at their distance, and those of as many windows from the middle one on; near and far are the hashes at i and at
-- half + i.
-- Assumes nothing.
use Rattle.window.proofs.HashList.{Beside}
use Rattle.window.proofs.hash_windows.Given as goal

abbrev pub invariant-loop-i : goal.invariant-loop-i
invariant-loop-i l = Beside l.b l.s l.count l.distance l.half l.initial.part l.part l.near l.far l.i
