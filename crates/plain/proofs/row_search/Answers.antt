-- `plain::row_search` meets its contract: at the head of each turn what was found is the longest of the runs before t, or the floor. No longer run
-- begins at a position that is passed over, nor where too few words are left.
-- Assumes nothing.
use Prim.Native.Nat.{◌≤◌}
use native.Mathlib.Omega.{arith}
use lib.ListN.{length}
use Rattle.sweep.proofs.Row.{better_least}
use Rattle.plain.proofs.Seen.{seen_none, seen_more, counted_small, seen_last, seen_pattern, seen_text}
use borrow.Author.Rules.{rules}
use Rattle.plain.proofs.row_search.Goals as goal

pub loop-found-init : goal.loop-found-init
loop-found-init c = let k = c.args.text.now.chained in
    let short : length c.args.text.now.words.now ≤ 2048 = omega (arith, k.each, k.ranged.short) in (search seen_none, search rules)

pub returns-then-words-at : goal.returns-then-words-at
returns-then-words-at c = search (seen_last, c.next_pair-at.ensures)

pub next_start-t-requires : goal.next_start-t-requires
next_start-t-requires c = (search rules, search counted_small)

pub loop-found-preserved : goal.loop-found-preserved
loop-found-preserved c = (search seen_more, search better_least)

pub returns-else-t-found : goal.returns-else-t-found
returns-else-t-found c = search seen_text

pub returns-after-loop-found : goal.returns-after-loop-found
returns-after-loop-found c = search seen_pattern
