-- `symbol::all_sound` meets its contract: the fold over the words is the test of each.
-- Assumes nothing.
use Rattle.std.proofs.Common.{true, ◌&&◌, ◌∙◌, rules}
use Rattle.std.proofs.lemmas.Iterator.{YieldsList-from_slice}
use Rattle.std.proofs.lemmas.Iterator.Consumers.{fold_from_yields_List}
use Rattle.symbol.specs.Word.{is_sound}
use Rattle.symbol.proofs.Sequence.{every_fold}
use Rattle.symbol.proofs.all_sound.Goals as goal

pub returns : goal.returns
returns c =
    fold_from_yields_List _ (λ all w. all && is_sound w) true c.fold.result c.fold.ensures.ran (YieldsList-from_slice c.args.s.now cc) (λ a x b q k. search rules)
    ∙ every_fold is_sound c.args.s.now
