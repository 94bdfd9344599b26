-- `ends::first_is_pattern` meets its contract: the lengths choose where they differ; else the words before i are equal, at first those of
-- the run that both begin with, and the first that differ choose.
-- Assumes nothing.
use Rattle.ends.proofs.Choosing.{lengths_choose, alike_more, word_chooses, none_differs, alike_run}
use Rattle.ends.proofs.first_is_pattern.Goals as goal

pub returns-then-first-second : goal.returns-then-first-second
returns-then-first-second c = search lengths_choose

pub loop-i-init : goal.loop-i-init
loop-i-init c = search alike_run

pub returns-then-a-b : goal.returns-then-a-b
returns-then-a-b c = search word_chooses

pub loop-i-preserved : goal.loop-i-preserved
loop-i-preserved c = search alike_more

pub returns : goal.returns
returns c = search none_differs
