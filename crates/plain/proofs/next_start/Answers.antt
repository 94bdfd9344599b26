-- `plain::next_start` meets its contract: the chain is entered after the positions that the run tells of, or at the end of the text.
-- Assumes nothing.
use native.Mathlib.Omega.{arith}
use Rattle.plain.proofs.Seen.{passed_small}
use borrow.Author.Rules.{rules}
use Rattle.plain.proofs.next_start.Goals as goal

pub overflow_add-from-2 : goal.overflow_add-from-2
overflow_add-from-2 c = let small = passed_small _ _ _ (search rules) c.passed_over.ensures in record { fits = omega (arith, small) }
