-- `report::store_words` meets its contract: after i turns the first i words are stored, and in the end the buffer is full or fewer than four
-- bytes are left.
-- Assumes nothing.
use Rattle.report.proofs.Words.{stored_more, stored_count, stored_all}
use Rattle.report.proofs.store_words.Goals as goal

pub loop-i-preserved : goal.loop-i-preserved
loop-i-preserved c = search stored_more

pub returns-clause-value : goal.returns-clause-value
returns-clause-value c = search stored_count

pub returns-clause-words_after : goal.returns-clause-words_after
returns-clause-words_after c = search stored_all
