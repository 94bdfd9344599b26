-- `record::check_read` meets its contract: a fault of the record stops the chain.
-- Assumes nothing.
use borrow.Author.Rules.{rules}
use Rattle.record.proofs.Reading.{fault_stops}
use Rattle.record.proofs.check_read.Goals as goal

pub returns-in_err-check : goal.returns-in_err-check
returns-in_err-check c = search (rules, fault_stops)
