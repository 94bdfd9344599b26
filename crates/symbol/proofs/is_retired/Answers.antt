-- `symbol::is_retired` meets its contract: the retired calls are a range of numbers.
-- Assumes nothing.
use Rattle.symbol.proofs.Retired.{retired_test}
use Rattle.symbol.proofs.is_retired.Goals as goal

pub returns : goal.returns
returns c = search retired_test
