-- `threshold::check_threshold` meets its contract: a refusal of the first checks stops the chain, and so does one of the workspace.
-- Assumes nothing.
use borrow.Author.Rules.{rules}
use Rattle.tiling.proofs.Comparing.{search_stopped, workspace_stopped}
use Rattle.threshold.proofs.check_threshold.Goals as goal

pub returns-in_err-search-clause-checked : goal.returns-in_err-search-clause-checked
returns-in_err-search-clause-checked c = search (rules, search_stopped)

pub returns-in_err-check_workspace-clause-checked : goal.returns-in_err-check_workspace-clause-checked
returns-in_err-check_workspace-clause-checked c = search (rules, workspace_stopped)
