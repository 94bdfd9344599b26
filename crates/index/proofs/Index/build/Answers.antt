-- `index::Index::build` meets its contract: the pattern's free windows are hashed and set the filter, and the text's are then hashed and linked from right to left.
-- Assumes nothing.
use Rattle.index.proofs.Windows.{built_all}
use Rattle.index.proofs.Index.build.Goals as goal

pub returns : goal.returns
returns c = search built_all
