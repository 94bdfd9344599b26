-- `window::roll` meets its contract: what is left after the subtraction is congruent to the weight of the words that stay.
-- Assumes nothing.
use Rattle.std.proofs.Common.{rules}
use Rattle.window.proofs.Hash.{rolled}
use Rattle.window.proofs.roll.Goals as goal

pub returns : goal.returns
returns c = search (rolled, rules)
