-- `index::Index::hash_rows` meets its contract: at the head of each turn the free windows from a position on are hashed and their entries set, and
-- between two stretches no window is free.
-- Assumes nothing.
use mathlib.Core.Path.{refl}
use borrow.Author.Rules.{rules}
use Rattle.index.proofs.Rows.{row_walk_first, row_walk_here, row_walk_rows}
use Rattle.index.proofs.Index.hash_rows.Goals as goal

pub loop-end-init : goal.loop-end-init
loop-end-init c = record { pass_kept = refl; heads_kept = refl; walk = search row_walk_first }

pub hash_row_stretch-requires : goal.hash_row_stretch-requires
hash_row_stretch-requires c = (search rules, search row_walk_here, search row_walk_rows)
