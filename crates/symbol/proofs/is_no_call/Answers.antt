-- `symbol::is_no_call` meets its contract: the one no-call is the word 2^31.
-- Assumes nothing.
use Rattle.symbol.proofs.Word.{no_call_test}
use Rattle.symbol.proofs.is_no_call.Goals as goal

pub returns : goal.returns
returns c = search no_call_test
