-- `measure::longer_run` meets its contract: a run is no longer than either list, and no longer than best where the words at offset best do not
-- match; in each of these cases best is the greater.
-- Assumes nothing.
use Rattle.measure.proofs.Longer.{longer_pattern, longer_text, longer_stop, longer_run_lem}
use Rattle.measure.proofs.longer_run.Goals as goal

pub returns-then-pattern-best : goal.returns-then-pattern-best
returns-then-pattern-best c = search longer_pattern

pub returns-then-text-best : goal.returns-then-text-best
returns-then-text-best c = search longer_text

pub returns-then-not-equal_calls : goal.returns-then-not-equal_calls
returns-then-not-equal_calls c = search longer_stop

pub returns : goal.returns
returns c = longer_run_lem _ _ _ _ c.measured_run.ensures c.max.ensures
