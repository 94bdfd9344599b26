-- `cover::check_cover` meets its contract: a refusal of the first checks stops the chain.
-- Assumes nothing.
use borrow.Author.Rules.{rules}
use Rattle.tiling.proofs.Comparing.{fast_stopped}
use Rattle.cover.proofs.check_cover.Goals as goal

pub returns-in_err-search-clause-checked : goal.returns-in_err-search-clause-checked
returns-in_err-search-clause-checked c = search (rules, fast_stopped)
