-- `rows::row_bound` meets its contract: a run is at most one word longer than the run one position on, none begins where the pattern has no call, and
-- none of s words where the filter does not know the window.
-- Assumes nothing.
use Rattle.sweep.proofs.Bounds.{bound_no_call, bound_more}
use Rattle.rows.proofs.Bounds.{goes_back}
use borrow.Author.Rules.{rules}
use Rattle.rows.proofs.Lookup.row_bound.Goals as goal

pub overflow_sub-result : goal.overflow_sub-result
overflow_sub-result c = search goes_back

pub returns-then-not-is_call : goal.returns-then-not-is_call
returns-then-not-is_call c = search bound_no_call

pub returns-then-goes_on : goal.returns-then-goes_on
returns-then-goes_on c = search bound_more

pub returns-then-cap-self : goal.returns-then-cap-self
returns-then-cap-self c = search bound_more

pub capped-requires : goal.capped-requires
capped-requires c = (search rules, search rules, search rules, search bound_more, search rules)
