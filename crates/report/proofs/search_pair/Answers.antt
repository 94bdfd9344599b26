-- `report::search_pair` meets its contract: workspace and tile buffer suffice for any two sequences.
-- Assumes nothing.
use Rattle.report.proofs.Engine.{searched}
use borrow.Author.Rules.{rules}
use Rattle.report.proofs.search_pair.Goals as goal

pub returns : goal.returns
returns c = searched c.compare.ensures (search rules) (search rules) (search rules) (search rules) (search rules) (search rules)
