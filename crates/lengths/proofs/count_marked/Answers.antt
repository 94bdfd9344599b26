-- `lengths::count_marked` meets its contract: those that are not 0 are counted.
-- Assumes nothing.
use borrow.Author.Rules.{rules}
use Rattle.lengths.proofs.Samples.{counted}
use Rattle.lengths.proofs.count_marked.Goals as goal

pub returns : goal.returns
returns c = search (counted, rules)
