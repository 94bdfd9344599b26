-- `window::fill_hashes` meets its contract: at the head of each turn the hashes before i stand in the buffer and h is the hash at i, which the
-- last store puts down where the last window begins; all are hashes of replaced words.
-- Assumes nothing.
use Rattle.window.proofs.HashList.{none_fits, replaced_fits, replaced_more, replaced_all}
use Rattle.window.proofs.fill_hashes.Goals as goal

pub returns-then-words-s : goal.returns-then-words-s
returns-then-words-s c = search none_fits

pub loop-i-init : goal.loop-i-init
loop-i-init c = search replaced_fits

pub loop-i-preserved : goal.loop-i-preserved
loop-i-preserved c = search replaced_more

pub returns : goal.returns
returns c = search replaced_all
