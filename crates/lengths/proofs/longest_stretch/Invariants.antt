-- `lengths::longest_stretch` meets its contract: at the head of each turn the longest stretch of calls after the stretch of free words is known; words that are covered
-- are no calls.
-- Assumes nothing.
use Rattle.lengths.proofs.Stretches.{Longest}
use Rattle.bounds.specs.Workspace.{state}
use Rattle.lengths.proofs.longest_stretch.Given as goal

abbrev pub invariant-loop-part : goal.invariant-loop-part
invariant-loop-part l = Longest (state l.view.job l.view.words.now).pattern l.most l.part.from.0 l.part.to.0

abbrev pub decreases-loop-part : goal.decreases-loop-part
decreases-loop-part l = l.part.to.0
