-- `buffer::copy` meets its contract: at the head of each turn the first i words stand in the buffer, and what follows them is as it was.
-- Assumes nothing.
use Rattle.buffer.proofs.Buffer.{copied_more}
use Rattle.buffer.proofs.copy.Goals as goal

pub loop-i-preserved : goal.loop-i-preserved
loop-i-preserved c = search copied_more
