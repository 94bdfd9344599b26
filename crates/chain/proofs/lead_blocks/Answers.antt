-- `chain::lead_blocks` meets its contract: at the head of each turn the first words of the blocks up to this one lead out.
-- Assumes nothing.
use Rattle.chain.proofs.Unlinking.{led_none, led_more}
use Rattle.chain.proofs.lead_blocks.Goals as goal

pub loop-block-init : goal.loop-block-init
loop-block-init c = search led_none

pub loop-block-preserved : goal.loop-block-preserved
loop-block-preserved c = search led_more
