-- `rows::row_search` meets its contract: at the head of each turn what was found is the longest of the runs before t, or one word less than a window.
-- Assumes nothing.
use Rattle.rows.proofs.Walking.{walk_none, walk_more, walk_end, walk_past}
use Rattle.rows.proofs.Lookup.row_search.Goals as goal

pub loop-t-init : goal.loop-t-init
loop-t-init c = search walk_none

pub loop-t-preserved : goal.loop-t-preserved
loop-t-preserved c = search walk_more

pub returns-else-walk-view : goal.returns-else-walk-view
returns-else-walk-view c = search walk_end

pub returns-after-loop-t : goal.returns-after-loop-t
returns-after-loop-t c = search walk_past
