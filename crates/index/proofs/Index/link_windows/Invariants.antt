-- `index::Index::link_windows` meets its contract: at the head of each turn the text's windows from a position on are linked, and between two stretches
-- none is free.
-- Assumes nothing.
use mathlib.Core.Path.{◌≡◌}
use Rattle.bounds.specs.Workspace.{state}
use Rattle.index.proofs.Texts.{TextWalk}
use Rattle.index.proofs.Index.link_windows.Given as goal

abbrev pub invariant-loop-end : goal.invariant-loop-end
invariant-loop-end l =
    record {
      pass_kept : l.self.pass ≡ l.initial.self.pass;
      walk : TextWalk l.self.pass (state l.initial.self.pass.job l.initial.ws) l.ws l.self.heads l.self.filter l.end.0;
    }

abbrev pub decreases-loop-end : goal.decreases-loop-end
decreases-loop-end l = l.end.0
