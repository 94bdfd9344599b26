-- `checks::check_pair` meets its contract: a refusal of the first checks stops the chain.
-- Assumes nothing.
use borrow.Author.Rules.{rules}
use Rattle.tiling.proofs.Comparing.{sequences_stopped}
use Rattle.checks.proofs.check_pair.Goals as goal

pub returns-in_err-check_sequences-clause-checked : goal.returns-in_err-check_sequences-clause-checked
returns-in_err-check_sequences-clause-checked c = search (rules, sequences_stopped)
