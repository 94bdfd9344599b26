-- `index::Index::link_windows` meets its contract: at the head of each turn the text's windows from a position on are linked, and between two stretches
-- none is free.
-- Assumes nothing.
use mathlib.Core.Path.{refl}
use borrow.Author.Rules.{rules}
use Rattle.index.proofs.Texts.{text_walk_first, text_walk_here, text_walk_texts}
use Rattle.index.proofs.Index.link_windows.Goals as goal

pub loop-end-init : goal.loop-end-init
loop-end-init c = record { pass_kept = refl; walk = search text_walk_first }

pub link_text_stretch-requires : goal.link_text_stretch-requires
link_text_stretch-requires c = (search rules, search text_walk_here, search text_walk_texts)
