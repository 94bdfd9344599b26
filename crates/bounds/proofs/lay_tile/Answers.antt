-- `bounds::lay_tile` meets its contract: the marks lie before the chains, and the entries of the pattern before those of the text.
-- Assumes nothing.
use Rattle.bounds.proofs.Workspace.{marked_ranged, marked_room, unlinked_ranged, unlinked_room}
use borrow.Author.Rules.{rules}
use Rattle.bounds.proofs.lay_tile.Goals as goal

pub unlink_in-requires : goal.unlink_in-requires
unlink_in-requires c = (search rules, search (marked_room, rules), search marked_ranged, search rules, search rules)

pub unlink_in-requires-2 : goal.unlink_in-requires-2
unlink_in-requires-2 c = (search rules, search unlinked_room, search unlinked_ranged, search rules, search rules)
