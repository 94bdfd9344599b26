-- `index::Index::enter_rows` meets its contract: the windows of the stretch that fit are free, and those that reach past it are not, so the entries are set of all
-- free windows from its start on.
-- Assumes nothing.
use Rattle.index.proofs.Rows.{rows_space, rows_room, rows_free, rows_raised, rows_entered, same_rows}
use Rattle.index.proofs.Index.enter_rows.Goals as goal

pub raise_rows-requires : goal.raise_rows-requires
raise_rows-requires c = (search rows_space, search rows_room, search rows_free, search rows_raised)

pub returns-clause-state_unchanged : goal.returns-clause-state_unchanged
returns-clause-state_unchanged c = search same_rows

pub returns-clause-rows_from : goal.returns-clause-rows_from
returns-clause-rows_from c = search rows_entered
