-- `sweep::repeats` meets its contract: the row is measured against itself, one word further on.
-- Assumes nothing.
use borrow.Author.Rules.{rules}
use Rattle.sweep.proofs.Passed.{repeats_none}
use Rattle.sweep.proofs.repeats.Goals as goal

pub returns-then-is_empty : goal.returns-then-is_empty
returns-then-is_empty c = search (repeats_none, rules)
