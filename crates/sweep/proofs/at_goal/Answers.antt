-- `sweep::at_goal` meets its contract: it is the definition.
-- Assumes nothing.
use Rattle.sweep.proofs.Laying.{goal_asked}
use Rattle.sweep.proofs.at_goal.Goals as goal

pub returns : goal.returns
returns c = search goal_asked
