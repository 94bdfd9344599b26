-- `cover::pass_long` meets its contract: the tiles before `passed` are passed, and the walk stops at the first that is too short.
-- Assumes nothing.
use Rattle.cover.proofs.Walking.{passing_small, passing_more, passing_stopped, passing_through, passing_ended}
use Rattle.cover.proofs.pass_long.Goals as goal

pub overflow_add-words : goal.overflow_add-words
overflow_add-words c = search passing_small

pub loop-passed-preserved : goal.loop-passed-preserved
loop-passed-preserved c = search passing_more

pub returns-then-len-least-clause-words_covered : goal.returns-then-len-least-clause-words_covered
returns-then-len-least-clause-words_covered c = search passing_stopped

pub returns-clause-walked_on : goal.returns-clause-walked_on
returns-clause-walked_on c = search passing_through

pub returns-clause-words_covered : goal.returns-clause-words_covered
returns-clause-words_covered c = search passing_ended
