-- `plain::run_at` meets its contract: no run begins at a word that is 0.
-- Assumes nothing.
use Rattle.plain.proofs.Seen.{run_marked}
use Rattle.plain.proofs.run_at.Goals as goal

pub returns-then-text-from-eq0 : goal.returns-then-text-from-eq0
returns-then-text-from-eq0 c = search run_marked
