-- `row_bound` of the plain engine meets the contract of the trait: a run is at most one word longer than the run one position on, and none begins
-- where the pattern has no call.
-- Assumes nothing.
use borrow.Author.Rules.{rules}
use Rattle.sweep.proofs.Bounds.{bound_no_call, bound_more}
use Rattle.plain.proofs.Fill.{goes_back}
use Rattle.plain.proofs.ScanEngine.row_bound.Goals as goal

pub overflow_sub-result : goal.overflow_sub-result
overflow_sub-result c = search goes_back

pub returns-then-not-is_call-clause-value : goal.returns-then-not-is_call-clause-value
returns-then-not-is_call-clause-value c = search bound_no_call

pub returns-then-cap-view-clause-value : goal.returns-then-cap-view-clause-value
returns-then-cap-view-clause-value c = search bound_more

pub returns-then-goes_on-clause-value : goal.returns-then-goes_on-clause-value
returns-then-goes_on-clause-value c = search bound_more

pub capped-requires : goal.capped-requires
capped-requires c = (search rules, search rules, search rules, search rules, search bound_more, search rules)
