-- `measure::measured_run` meets its contract: a pair passes where its words are equal calls; a run without a whole block ends in its
-- first one.
-- Assumes nothing.
use Rattle.std.proofs.Common.{rules, of_calls}
use Rattle.symbol.specs.Word.{equal_calls}
use Rattle.measure.proofs.Blocks.{blocks_within}
use Rattle.measure.proofs.Longer.{counted_none, counted_all}
use Rattle.measure.proofs.measured_run.Goals as goal

pub returns-then-whole-best : goal.returns-then-whole-best
returns-then-whole-best c =
    counted_none _ _ _ (c.blocks_passed-whole.ensures.passed equal_calls (λ x y r k. search (rules, of_calls))) (search rules)

pub returns : goal.returns
returns c =
    let whole = c.blocks_passed-whole.ensures.passed equal_calls (λ x y r k. search (rules, of_calls)) in
    counted_all _ _ _ _ whole (search rules) (c.passed_from.ensures equal_calls (λ x y r k. search (rules, of_calls)) (blocks_within _ _ whole))
