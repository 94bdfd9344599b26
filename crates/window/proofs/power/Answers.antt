-- `window::power` meets its contract: after `counter` turns p is that power.
-- Assumes nothing.
use Rattle.window.proofs.Hash.{power_more}
use Rattle.window.proofs.power.Goals as goal

pub loop-preserved : goal.loop-preserved
loop-preserved c = search power_more
