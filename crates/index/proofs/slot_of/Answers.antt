-- `index::slot_of` meets its contract: it is the product's leading bits by definition.
-- Assumes nothing.
use Rattle.index.proofs.Bucket.{slot_is, slot_small}
use Rattle.index.proofs.slot_of.Goals as goal

pub returns : goal.returns
returns c = (search slot_is, search slot_small)
