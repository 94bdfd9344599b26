-- `window::hash_of` meets its contract: the fold takes word after word into the hash.
-- Assumes nothing.
use Rattle.std.proofs.Common.{rules}
use Rattle.window.proofs.Hash.{hashed}
use Rattle.window.proofs.hash_of.Goals as goal

pub returns : goal.returns
returns c = search (hashed, rules)
