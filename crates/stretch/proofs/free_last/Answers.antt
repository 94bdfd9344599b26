-- `stretch::free_last` meets its contract: the words that pass the test are counted from the last on.
-- Assumes nothing.
use Rattle.std.proofs.Common.{◌∙◌, ap, rules, tests}
use Rattle.std.proofs.lemmas.Iterator.Adapters.{YieldsList-from_rev_slice}
use Rattle.std.proofs.lemmas.Iterator.Consumers.{count_from_yields_List, YieldsList-at}
use Rattle.std.proofs.lemmas.Iterator.Search.{YieldsList-from_take_while}
use Rattle.stretch.proofs.Sides.{free_word, last_count}
use Rattle.stretch.proofs.free_last.Goals as goal

pub returns : goal.returns
returns c =
    let source = YieldsList-at c.take_while.ensures.source (YieldsList-from_rev_slice _ (ap (λ s. s.rest.now) c.rev.ensures.source ∙ c.iter.ensures.rest)) in
    last_count c.args.words.now c.args.most c.min.result c.count.result c.min.ensures
    (count_from_yields_List _ _ c.count.ensures.ran
    (YieldsList-from_take_while _ free_word source c.take_while.ensures.closure c.take_while.ensures.done (λ x b q k. search (rules, tests))))
