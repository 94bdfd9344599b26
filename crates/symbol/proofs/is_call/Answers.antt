-- `symbol::is_call` meets its contract: the upper half of a call is 0x4000, and of no other word.
-- Assumes nothing.
use Rattle.symbol.proofs.Word.{call_test}
use Rattle.symbol.proofs.is_call.Goals as goal

pub returns : goal.returns
returns c = search call_test
