-- `merge::merged_word` meets its contract: equal calls match, and then it tests the cases in the order of the definition.
-- Assumes nothing.
use Rattle.merge.proofs.Word.{take_equal, take_agreed, take_second, take_first, take_none}
use Rattle.merge.proofs.merged_word.Goals as goal

pub returns-then-equal_calls : goal.returns-then-equal_calls
returns-then-equal_calls c = search take_equal

pub returns-then-words_match : goal.returns-then-words_match
returns-then-words_match c = search take_agreed

pub returns-then-is_no_call : goal.returns-then-is_no_call
returns-then-is_no_call c = search take_second

pub returns-then-is_no_call-2 : goal.returns-then-is_no_call-2
returns-then-is_no_call-2 c = search take_first

pub returns : goal.returns
returns c = search take_none
