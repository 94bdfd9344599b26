-- `chain::block_zero` meets its contract: the fold over the last 16 words tells whether each of them is 0.
-- Assumes nothing.
use Rattle.std.proofs.Common.{◌&&◌, true, rules, tests}
use Rattle.std.proofs.lemmas.Iterator.{YieldsList-from_slice}
use Rattle.std.proofs.lemmas.Iterator.Consumers.{fold_from_yields_List}
use Rattle.chain.proofs.Stretches.{is_zero, block_fold}
use Rattle.chain.proofs.block_zero.Goals as goal

pub returns : goal.returns
returns c =
    block_fold c.args.words.now c.fold.result c.requires
    (fold_from_yields_List _ (λ all w. all && is_zero w) true c.fold.result c.fold.ensures.ran (YieldsList-from_slice _ c.iter.ensures.rest) (λ a x b q k. search (rules, tests)))
