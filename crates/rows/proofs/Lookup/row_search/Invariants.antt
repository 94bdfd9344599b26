-- `rows::row_search` meets its contract: at the head of each turn what was found is the longest of the runs before t, or one word less than a window.
-- Assumes nothing.
use Rattle.rows.proofs.Walking.{Walked}
use Prim.Native.Nat.{◌-◌}
use Rattle.rows.proofs.Lookup.row_search.Given as goal

abbrev pub invariant-loop-t : goal.invariant-loop-t
invariant-loop-t l = Walked l.self.pass l.self.words.now l.self.heads.now l.p.0 l.t.0 l.walk

abbrev pub decreases-loop-t : goal.decreases-loop-t
decreases-loop-t l = l.self.pass.job.m - l.t.0
