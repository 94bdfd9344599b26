-- `stretch::taken` meets its contract: to count as far as the minimum on either side is enough.
-- Assumes nothing.
use Rattle.stretch.proofs.Sides.{one_fits, both_fit, taken_all}
use Rattle.stretch.proofs.taken.Goals as goal

pub overflow_add-result : goal.overflow_add-result
overflow_add-result c = search one_fits

pub overflow_add-result-2 : goal.overflow_add-result-2
overflow_add-result-2 c = search both_fit

pub returns : goal.returns
returns c = search taken_all
