-- `ends::first_is_pattern` meets its contract: the lengths choose where they differ; else the words before i are equal, at first those of
-- the run that both begin with, and the first that differ choose.
-- Assumes nothing.
use Rattle.ends.proofs.Choosing.{Alike}
use Rattle.ends.proofs.first_is_pattern.Given as goal

abbrev pub invariant-loop-i : goal.invariant-loop-i
invariant-loop-i l = Alike l.first l.second l.i
