-- `sweep::settle` meets its contract: a run of the level's length is the next tile, for which there is room.
-- Assumes nothing.
use Rattle.sweep.proofs.Step.{in_pattern, in_text, on_free, tile_fits, text_small, level_small, count_small, stepped_sweep, stepped_lays, stepped_falls}
use borrow.Author.Rules.{rules}
use Rattle.sweep.proofs.settle.Goals as goal

pub list-requires : goal.list-requires
list-requires c = (search tile_fits, search rules, search text_small, search level_small, search count_small)

pub lay_next-requires-clause-space : goal.lay_next-requires-clause-space
lay_next-requires-clause-space c = (search rules, search in_pattern, search in_text, search on_free)

pub returns-clause-level_bound : goal.returns-clause-level_bound
returns-clause-level_bound c = (search in_pattern, search in_text)

pub returns-clause-sweeping : goal.returns-clause-sweeping
returns-clause-sweeping c = search stepped_sweep

pub returns-clause-onward : goal.returns-clause-onward
returns-clause-onward c = search stepped_lays

pub returns-clause-falling : goal.returns-clause-falling
returns-clause-falling c = search stepped_falls
