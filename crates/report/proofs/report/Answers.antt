-- `report::report` meets its contract: it stores as many words of the input as a report can need, so that neither what it
-- does not store nor what the buffer had no room for changes anything, and the page is what the output begins with.
-- Assumes nothing.
use Rattle.report.proofs.Input.{reported, stream_reported, on_page}
use Rattle.report.proofs.report.Goals as goal

pub returns-clause-written : goal.returns-clause-written
returns-clause-written c = search (reported, on_page, c.in-Some.ensures.cases.same)

pub returns-clause-whole_stream : goal.returns-clause-whole_stream
returns-clause-whole_stream c = search (stream_reported, reported, on_page, c.in-Some.ensures.cases.same)
