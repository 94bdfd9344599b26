-- `index::bucket_of` meets its contract: it is the remainder by definition, and below the number of buckets.
-- Assumes nothing.
use Rattle.index.proofs.Bucket.{bucket_is, bucket_small}
use Rattle.index.proofs.bucket_of.Goals as goal

pub returns : goal.returns
returns c = (search bucket_is, search bucket_small)
