-- `levels::step` meets its contract: bounds only fall, and the blocks that are set anew are the greatest of theirs.
-- Assumes nothing.
use Rattle.bounds.proofs.Blocks.{covering_after}
use Rattle.levels.proofs.step.Goals as goal

pub returns-clause-covering : goal.returns-clause-covering
returns-clause-covering g c = search covering_after
