-- `ends::copy_replaced` meets its contract: words without a retired call are copied; of others the first i, replaced, stand in the buffer at the head of
-- each turn.
-- Assumes nothing.
use Rattle.ends.proofs.Opening.{copied_same, copied_word}
use Rattle.ends.proofs.copy_replaced.Goals as goal

pub returns-then-none_retired : goal.returns-then-none_retired
returns-then-none_retired c = search copied_same

pub loop-i-preserved : goal.loop-i-preserved
loop-i-preserved c = search copied_word
