-- `find` of the plain engine meets the contract of the trait: what its own words and another row tell is asked first.
-- Assumes nothing.
use Rattle.plain.proofs.Fill.{found_told, found_row}
use Rattle.plain.proofs.ScanEngine.find.Goals as goal

pub returns-then-known-cap-clause-value : goal.returns-then-known-cap-clause-value
returns-then-known-cap-clause-value c = search found_told

pub returns-clause-value : goal.returns-clause-value
returns-clause-value c = search found_row
