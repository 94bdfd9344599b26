-- `measure::passed_from` meets its contract: the pairs of what follows those known are counted as long as they pass.
-- Assumes nothing.
use Rattle.std.proofs.Common.{rules, of_calls}
use Rattle.std.proofs.lemmas.Iterator.{YieldsList-from_slice, YieldsList-from_zip}
use Rattle.std.proofs.lemmas.Iterator.Consumers.{count_from_yields_List, YieldsList-at}
use Rattle.std.proofs.lemmas.Iterator.Search.{YieldsList-from_take_while}
use Rattle.measure.proofs.Pairs.{pair_passes, pairs_count}
use Rattle.measure.proofs.passed_from.Goals as goal

pub returns : goal.returns
returns g c = λ test told within.
    pairs_count test c.args.words.now c.args.others.now c.args.known c.min-end.result c.count-more.result c.min-end.ensures within
    (count_from_yields_List _ _ c.count-more.ensures.ran
    (YieldsList-from_take_while _ (pair_passes test)
    (YieldsList-at c.take_while.ensures.source (YieldsList-from_zip (YieldsList-at c.zip.ensures.first (YieldsList-from_slice _ c.iter.ensures.rest)) (YieldsList-from_slice _ c.zip.ensures.second.0)))
    c.take_while.ensures.closure c.take_while.ensures.done (λ x b q k. search (rules, of_calls, told))))
