-- `chain::free_from` meets its contract: at the head of each turn no word from `from` up to `at` is free. A word that is not free leads past words
-- that are not free either.
-- Assumes nothing.
use Rattle.chain.proofs.Stretches.{chain_on, chain_on_less}
use borrow.Author.Rules.{rules}
use Rattle.chain.proofs.FreeWords.free_from.Goals as goal

pub loop-at-smaller : goal.loop-at-smaller
loop-at-smaller c = search (chain_on_less, rules)

pub loop-at-preserved : goal.loop-at-preserved
loop-at-preserved c = search chain_on
