-- `index::Index::link_stretch` meets its contract: at the head of each turn the windows from t on are linked, each head is the first linked window of its
-- bucket from t on, and free counts the calls from t on.
-- Assumes nothing.
use Rattle.index.proofs.Linking.{backward_more, backward_all}
use Rattle.index.proofs.Index.link_stretch.Goals as goal

pub loop-t-preserved : goal.loop-t-preserved
loop-t-preserved c = record { pass_kept = cc; back = search backward_more }

pub returns-clause-linked : goal.returns-clause-linked
returns-clause-linked c = search backward_all
