-- `index::hash_part` meets its contract: the words lie within the two sequences, so their hashes stand between those and the bounds.
-- Assumes nothing.
use Rattle.index.proofs.Parts.{part_hashed}
use Rattle.index.proofs.hash_part.Goals as goal

pub returns : goal.returns
returns c = search part_hashed
