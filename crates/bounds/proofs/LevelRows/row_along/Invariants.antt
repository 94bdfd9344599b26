-- `bounds::row_along` meets its contract: at the head of each turn no row after p up to q has the level for its bound, and rows between q and the
-- next free one are covered and have none.
-- Assumes nothing.
use mathlib.Core.Path.{◌≡◌}
use Rattle.bounds.specs.Workspace.{bound}
use Rattle.bounds.proofs.Blocks.{Along}
use Rattle.bounds.proofs.LevelRows.row_along.Given as goal

abbrev pub invariant-loop-q : goal.invariant-loop-q
invariant-loop-q l = Along (λ r. bound l.self.view.job l.self.view.words.now r ≡ l.self.level) l.self.view.job.n l.p l.q
