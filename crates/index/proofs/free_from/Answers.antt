-- `index::free_from` meets its contract: a call is one more than those after it, and any other word ends the count.
-- Assumes nothing.
use Rattle.index.proofs.Free.{free_fits, free_more, free_stop}
use Rattle.index.proofs.free_from.Goals as goal

pub returns-then-not-is_call : goal.returns-then-not-is_call
returns-then-not-is_call c = search free_stop

pub overflow_add-result : goal.overflow_add-result
overflow_add-result c = search free_fits

pub returns : goal.returns
returns c = search free_more
