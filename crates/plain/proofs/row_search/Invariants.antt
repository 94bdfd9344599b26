-- `plain::row_search` meets its contract: at the head of each turn what was found is the longest of the runs before t, or the floor. No longer run
-- begins at a position that is passed over, nor where too few words are left.
-- Assumes nothing.
use Prim.Native.Nat.{◌-◌, ◌≤◌}
use lib.ListN.{length}
use Rattle.plain.proofs.Seen.{Seen}
use Rattle.plain.proofs.row_search.Given as goal

abbrev pub invariant-loop-found : goal.invariant-loop-found
invariant-loop-found l = Seen l.pattern l.text.words.now l.floor l.t l.found × (l.ended ≤ l.found.len)

abbrev pub decreases-loop-found : goal.decreases-loop-found
decreases-loop-found l = length l.text.words.now - l.t
