-- `rows::visit` meets its contract: a run is measured only where it may count.
-- Assumes nothing.
use Rattle.rows.proofs.Pairs.{run_small, visit_passed, visit_dismissed, visit_measured}
use borrow.Author.Rules.{rules}
use Rattle.rows.proofs.Lookup.visit.Goals as goal

pub returns-then-t-walk : goal.returns-then-t-walk
returns-then-t-walk c = search visit_passed

pub returns-then-not-may_be_longer : goal.returns-then-not-may_be_longer
returns-then-not-may_be_longer c = search visit_dismissed

pub after_run-requires : goal.after_run-requires
after_run-requires c = (search rules, search run_small)

pub returns : goal.returns
returns c = search visit_measured
