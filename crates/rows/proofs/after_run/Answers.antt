-- `rows::after_run` meets its contract: field by field.
-- Assumes nothing.
use native.Mathlib.Omega.{arith}
use Rattle.sweep.proofs.Passed.{passed_most}
use Rattle.rows.proofs.Pairs.{after_is}
use Rattle.rows.proofs.after_run.Goals as goal

pub overflow_add-result-2 : goal.overflow_add-result-2
overflow_add-result-2 c = record { fits = omega (arith, passed_most _ _ _ c.passed_over.ensures) }

pub returns : goal.returns
returns c = search after_is
