-- `index::Index::link_text_stretch` meets its contract: a stretch that is shorter than a window has none that is linked.
-- Assumes nothing.
use Rattle.index.proofs.Texts.{texts_short}
use Rattle.index.proofs.Index.link_text_stretch.Goals as goal

pub returns-then-texts-self-clause-texts_from : goal.returns-then-texts-self-clause-texts_from
returns-then-texts-self-clause-texts_from c = search texts_short
