-- `chain::mend` meets its contract: the previous word points on, then the next one back.
-- Assumes nothing.
use Rattle.chain.proofs.Unlinking.{on_range}
use Rattle.chain.proofs.mend.Goals as goal

pub point_back-requires : goal.point_back-requires
point_back-requires c = search on_range
