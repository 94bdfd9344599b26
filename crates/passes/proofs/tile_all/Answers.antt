-- `passes::tile_all` meets its contract: what the first pass and the later ones lay follows one another.
-- Assumes nothing.
use Rattle.sweep.proofs.Turn.{few_covered, few_fillable}
use Rattle.passes.proofs.Passes.{first_some, first_most, first_enough}
use Rattle.passes.proofs.tile_all.Goals as goal

pub at_goal-requires : goal.at_goal-requires
at_goal-requires c = (search few_covered, search few_fillable)

pub at_length-first-requires : goal.at_length-first-requires
at_length-first-requires c = (search first_some, search first_most, search first_enough)
