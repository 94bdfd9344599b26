-- `symbol::equal_calls` meets its contract: two calls with equal codes are equal. The disjunction of two numbers is 0
-- just where both are, the difference of two words bit by bit just where they are equal.
-- Assumes nothing.
use Rattle.symbol.proofs.Word.{calls_test}
use Rattle.symbol.proofs.equal_calls.Goals as goal

pub returns : goal.returns
returns c = search calls_test
