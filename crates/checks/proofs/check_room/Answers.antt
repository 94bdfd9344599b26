-- `checks::check_room` meets its contract: a refusal of the workspace stops the chain.
-- Assumes nothing.
use borrow.Author.Rules.{rules}
use Rattle.tiling.proofs.Comparing.{workspace_stopped}
use Rattle.checks.proofs.check_room.Goals as goal

pub returns-in_err-check_workspace : goal.returns-in_err-check_workspace
returns-in_err-check_workspace c = search (rules, workspace_stopped)
