-- `index::Index::hash_rows` meets its contract: at the head of each turn the free windows from a position on are hashed and their entries set, and
-- between two stretches no window is free.
-- Assumes nothing.
use mathlib.Core.Path.{◌≡◌}
use Rattle.bounds.specs.Workspace.{state}
use Rattle.index.proofs.Rows.{RowWalk}
use Rattle.index.proofs.Index.hash_rows.Given as goal

abbrev pub invariant-loop-end : goal.invariant-loop-end
invariant-loop-end l =
    record {
      pass_kept : l.self.pass ≡ l.initial.self.pass;
      heads_kept : l.self.heads ≡ l.initial.self.heads;
      walk : RowWalk l.self.pass (state l.initial.self.pass.job l.initial.ws) l.ws l.self.filter l.end.0;
    }

abbrev pub decreases-loop-end : goal.decreases-loop-end
decreases-loop-end l = l.end.0
