-- `search::check_fast` meets its contract: a refusal of the first checks stops the chain.
-- Assumes nothing.
use borrow.Author.Rules.{rules}
use Rattle.tiling.proofs.Comparing.{search_stopped}
use Rattle.search.proofs.check_fast.Goals as goal

pub returns-in_err-search-clause-checked : goal.returns-in_err-search-clause-checked
returns-in_err-search-clause-checked c = search (rules, search_stopped)
