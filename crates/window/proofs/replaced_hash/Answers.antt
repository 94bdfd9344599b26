-- `window::replaced_hash` meets its contract: the fold takes the replaced words, one after another, into the hash.
-- Assumes nothing.
use Rattle.std.proofs.Common.{rules}
use Rattle.window.proofs.Hash.{hashed}
use Rattle.window.proofs.replaced_hash.Goals as goal

pub returns : goal.returns
returns c = search (hashed, rules)
