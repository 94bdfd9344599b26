-- `plain::search_row` meets its contract: the parts are what is left of the pattern, cut after cap words, and the text with its chain.
-- Assumes nothing.
use Rattle.plain.proofs.Parts.{row_of_parts}
use Rattle.plain.proofs.search_row.Goals as goal

pub returns : goal.returns
returns c = search row_of_parts
