-- `cover::pass_long` meets its contract: the tiles before `passed` are passed, and the walk stops at the first that is too short.
-- Assumes nothing.
use Rattle.cover.proofs.Walking.{Passing}
use Rattle.cover.proofs.pass_long.Given as goal

abbrev pub invariant-loop-passed : goal.invariant-loop-passed
invariant-loop-passed l = Passing l.tiles l.count l.least l.passed l.words
