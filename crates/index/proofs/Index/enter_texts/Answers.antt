-- `index::Index::enter_texts` meets its contract: hashing the stretch leaves what is linked behind it, and its windows are then linked.
-- Assumes nothing.
use Rattle.index.proofs.Texts.{texts_space, texts_ordered, texts_end, texts_linked, texts_entered, same_texts}
use Rattle.index.proofs.Index.enter_texts.Goals as goal

pub link_stretch-requires : goal.link_stretch-requires
link_stretch-requires c = (search texts_space, search texts_ordered, search texts_end, search texts_linked)

pub returns-clause-state_unchanged : goal.returns-clause-state_unchanged
returns-clause-state_unchanged c = search same_texts

pub returns-clause-texts_from : goal.returns-clause-texts_from
returns-clause-texts_from c = search texts_entered
