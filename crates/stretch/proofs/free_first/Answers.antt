-- `stretch::free_first` meets its contract: the words that pass the test are counted from the first on.
-- Assumes nothing.
use Rattle.std.proofs.Common.{rules, tests}
use Rattle.std.proofs.lemmas.Iterator.{YieldsList-from_slice}
use Rattle.std.proofs.lemmas.Iterator.Consumers.{count_from_yields_List, YieldsList-at}
use Rattle.std.proofs.lemmas.Iterator.Search.{YieldsList-from_take_while}
use Rattle.stretch.proofs.Sides.{free_word, first_count}
use Rattle.stretch.proofs.free_first.Goals as goal

pub returns : goal.returns
returns c =
    let source = YieldsList-at c.take_while.ensures.source (YieldsList-from_slice _ c.iter.ensures.rest) in
    first_count c.args.words.now c.args.most c.min-n.result c.count.result c.min-n.ensures
    (count_from_yields_List _ _ c.count.ensures.ran
    (YieldsList-from_take_while _ free_word source c.take_while.ensures.closure c.take_while.ensures.done (λ x b q k. search (rules, tests))))
