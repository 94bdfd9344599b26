-- `symbol::replaced` meets its contract: of the entry and the word one is taken once and the other not at all.
-- Assumes nothing.
use Rattle.symbol.specs.Word.{replacements}
use Rattle.symbol.proofs.Retired.{chosen_first, chosen_second, chosen_fits, entry_fits, replaced_by}
use borrow.Author.Rules.{rules}
use Rattle.symbol.proofs.replaced.Goals as goal

pub overflow_add-result : goal.overflow_add-result
unfolding replacements
overflow_add-result c = search (entry_fits, rules)

pub overflow_mul-result : goal.overflow_mul-result
unfolding replacements
overflow_mul-result c = search (chosen_first, entry_fits, rules)

pub overflow_mul-result-2 : goal.overflow_mul-result-2
overflow_mul-result-2 c = search (chosen_second, rules)

pub overflow_add-result-2 : goal.overflow_add-result-2
unfolding replacements
overflow_add-result-2 c = search (chosen_fits, entry_fits, rules)

pub returns : goal.returns
unfolding replacements
returns c = search replaced_by
