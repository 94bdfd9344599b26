-- `search::lay` meets its contract: what was laid when nothing more is to be laid are the first tiles of the listing.
-- Assumes nothing.
use Rattle.ends.proofs.Ending.{begun, ended}
use Rattle.search.proofs.lay.Goals as goal

pub tile_all-requires : goal.tile_all-requires
tile_all-requires c = rw c.new-pass.ensures.0 (search begun)

pub returns : goal.returns
returns c = let opened = c.open-job.ensures in
    let none = c.unlaid.ensures in
    let laid = rw c.new-pass.ensures.0 at c.tile_all.ensures in
    ended _ _ _ _ _ _ c.args.search.pair.comparable c.requires _ _ opened _ none _ _ _ laid
