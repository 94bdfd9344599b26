-- `plain::lay` meets its contract: what was laid when nothing more is to be laid are the first tiles of the listing.
-- Assumes nothing.
use Rattle.sweep.specs.Progress.{Fits}
use Rattle.ends.proofs.Ending.{begun, ended}
use Rattle.plain.proofs.lay.Goals as goal

pub lay_all-requires : goal.lay_all-requires
lay_all-requires c = let fits : Fits c.open-job.result c.open-job.new.ws c.args.tiles.now c.unlaid.result = search begun in
    (fits, (fits.least, fits.most), tt)

pub returns : goal.returns
returns c = search (ended, c.args.pair.comparable, c.requires)
