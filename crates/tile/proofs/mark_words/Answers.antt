-- `tile::mark_words` meets its contract: the part from the position on is zeros, and nothing else is touched.
-- Assumes nothing.
use Rattle.std.proofs.Common.{rules}
use Rattle.tile.proofs.Marking.{mark_put}
use Rattle.tile.proofs.mark_words.Goals as goal

pub returns : goal.returns
returns c = mark_put c.args.at c.args.len c.args.words.now c.fill.new.self c.requires (search rules)
