-- `lengths::longest_in` meets its contract: at the head of each turn the stretch from i on and the longest one are known.
-- Assumes nothing.
use Rattle.lengths.proofs.Stretches.{stretching_more, stretching_fits}
use Rattle.lengths.proofs.longest_in.Goals as goal

pub stretch_at-free-requires : goal.stretch_at-free-requires
stretch_at-free-requires c = search stretching_fits

pub loop-i-preserved : goal.loop-i-preserved
loop-i-preserved c = search stretching_more
