-- `merge::merge_words` meets its contract: before turn i the first i merged words stand at the start of the buffer, and the rest is as it was.
-- Assumes nothing.
use Rattle.merge.proofs.Merging.{merging_more, merging_all}
use Rattle.merge.proofs.merge_words.Goals as goal

pub loop-i-preserved : goal.loop-i-preserved
loop-i-preserved c = search merging_more

pub returns : goal.returns
returns c = search merging_all
