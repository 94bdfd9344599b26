-- `bounds::next_row` meets its contract: at the head of each turn no row from `from` up to p has the level for its bound.
-- Assumes nothing.
use Prim.Native.Nat.{◌-◌}
use mathlib.Core.Path.{◌≡◌}
use Rattle.chain.specs.First.{Passing}
use Rattle.bounds.specs.Workspace.{bound}
use Rattle.bounds.proofs.LevelRows.next_row.Given as goal

abbrev pub invariant-loop-p : goal.invariant-loop-p
invariant-loop-p l = Passing (λ q. bound l.self.view.job l.self.view.words.now q ≡ l.self.level) l.initial.p l.self.view.job.n l.p

abbrev pub decreases-loop-p : goal.decreases-loop-p
decreases-loop-p l = l.self.view.job.n - l.p
