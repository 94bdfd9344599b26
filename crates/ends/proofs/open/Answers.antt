-- `ends::open` meets its contract: by which sequence is the pattern, it stands first in the workspace and gives the job its lengths.
-- Assumes nothing.
use Rattle.ends.proofs.Opening.{opened_first, opened_second}
use Rattle.ends.proofs.open.Goals as goal

pub returns-then-first_is_pattern : goal.returns-then-first_is_pattern
returns-then-first_is_pattern c = search opened_first

pub returns : goal.returns
returns c = search opened_second
