-- `index::Index::link_stretch` meets its contract: at the head of each turn the windows from t on are linked, each head is the first linked window of its
-- bucket from t on, and free counts the calls from t on.
-- Assumes nothing.
use mathlib.Core.Path.{◌≡◌}
use Rattle.index.proofs.Linking.{Backward}
use Rattle.index.proofs.Index.link_stretch.Given as goal

abbrev pub invariant-loop-t : goal.invariant-loop-t
invariant-loop-t l =
    record {
      pass_kept : l.self.pass ≡ l.initial.self.pass;
      back : Backward l.self.pass l.fn.texts.from.0 l.initial.ws l.ws l.self.heads l.self.filter l.t l.free;
    }
