-- `measure::block_passes` meets its contract: the fold over the pairs of the two parts.
-- Assumes nothing.
use Rattle.std.proofs.Common.{◌&&◌, true, rules, of_calls}
use Rattle.std.proofs.lemmas.Iterator.{YieldsList-from_slice, YieldsList-from_zip}
use Rattle.std.proofs.lemmas.Iterator.Consumers.{fold_from_yields_List, YieldsList-at}
use Rattle.measure.proofs.Pairs.{pair_passes, block_fold}
use Rattle.measure.proofs.block_passes.Goals as goal

pub returns : goal.returns
returns g c = λ test told.
    block_fold test c.args.words.now c.args.others.now c.fold.result (search rules) (search rules)
    (fold_from_yields_List _ (λ all p. all && pair_passes test p) true c.fold.result c.fold.ensures.ran
    (YieldsList-from_zip (YieldsList-at c.zip.ensures.first (YieldsList-from_slice _ c.iter.ensures.rest)) (YieldsList-from_slice _ c.zip.ensures.second.0))
    (λ a x b q k. search (rules, of_calls, told)))
