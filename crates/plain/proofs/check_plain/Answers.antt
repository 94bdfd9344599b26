-- `plain::check_plain` meets its contract: a refusal of the first checks stops the chain.
-- Assumes nothing.
use borrow.Author.Rules.{rules}
use Rattle.tiling.proofs.Comparing.{pair_stopped}
use Rattle.plain.proofs.check_plain.Goals as goal

pub returns-in_err-pair-clause-checked : goal.returns-in_err-pair-clause-checked
returns-in_err-pair-clause-checked c = search (rules, pair_stopped)
