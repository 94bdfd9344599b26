-- `index::place_of` meets its contract: a quarter of the slot, by definition.
-- Assumes nothing.
use Rattle.index.proofs.Bucket.{place_is, place_small}
use Rattle.index.proofs.place_of.Goals as goal

pub returns : goal.returns
returns c = (search place_is, search place_small)
