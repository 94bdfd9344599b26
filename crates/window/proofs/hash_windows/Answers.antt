-- `window::hash_windows` meets its contract: the words stand before the hashes and are left as they were, so at the head of each turn the
-- hashes before i stand at their distance, and those of as many windows from the middle one on; near and far are the hashes at i and at
-- half + i.
-- Assumes nothing.
use Rattle.window.proofs.HashList.{beside_none, beside_more, beside_all}
use Rattle.window.proofs.hash_windows.Goals as goal

pub loop-i-init : goal.loop-i-init
loop-i-init c = search beside_none

pub loop-i-preserved : goal.loop-i-preserved
loop-i-preserved c = search beside_more

pub returns : goal.returns
returns c = search beside_all
