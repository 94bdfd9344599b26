-- `record::check` meets its contract: a fault of the frame stops the chain.
-- Assumes nothing.
use borrow.Author.Rules.{rules}
use Rattle.record.proofs.Reading.{frame_stops}
use Rattle.record.proofs.check.Goals as goal

pub returns-in_err-check_frame : goal.returns-in_err-check_frame
returns-in_err-check_frame c = search (rules, frame_stops)
