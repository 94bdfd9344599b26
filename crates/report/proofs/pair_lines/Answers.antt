-- `report::pair_lines` meets its contract: the three parts follow each other, and the answer's numbers are those of the tiles.
-- Assumes nothing.
use Rattle.report.proofs.Lines.{pair_written}
use Rattle.report.proofs.pair_lines.Goals as goal

pub returns : goal.returns
returns c = search pair_written
