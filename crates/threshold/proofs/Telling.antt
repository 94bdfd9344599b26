-- What is answered once the tiles are laid until the goal: what they cover decides as all of them would, and they are the first that tell.
-- Assumes nothing.
use Prim.Native.Nat.{ℕ, ◌+◌}
use mathlib.Core.Path.{◌≡◌, refl, sym, ◌∙◌, ap}
use mathlib.Core.List.{List}
use lib.Dec.{leb}
use lib.ListN.{length}
use Rattle.tiling.specs.Tally.{one}
use Rattle.tiling.specs.Comparing.{Comparable}
use Rattle.tiling.specs.Listing.{listing, covered}
use Rattle.tiling.specs.Until.{first_listed}
use Rattle.sweep.specs.Goal.{stopped}
use Rattle.sweep.specs.declared.Goal.{Goal}
use Rattle.sweep.specs.declared.Totals.{Totals}
use Rattle.ends.specs.Result.{Ran}
use Rattle.threshold.specs.Promise.{is_reached, told_tiles, told_answer}
use Rattle.threshold.specs.Words.{goal_for}
use Rattle.threshold.proofs.Words.{goal_tells, words_tell}
use Rattle.threshold.proofs.Decided.{listing_decides}

module _ (first second : List ℕ) (minimum threshold : ℕ) (can : Comparable first second minimum) (g : Goal) (is : g ≡ goal_for threshold (length first + length second)) (b b' : List ℕ) (k : Totals) (ran : Ran first second minimum g b b' k) where
  abbrev total : ℕ
  total = length first + length second

  same_tiles : first_listed (stopped g minimum) first second minimum ≡ told_tiles first second minimum threshold
  same_tiles = ap (λ x. first_listed (stopped x minimum) first second minimum) is ∙ goal_tells first second minimum threshold

  decides : leb g.enough k.covered ≡ is_reached first second minimum threshold
  decides =
      ap (leb g.enough) ran.laid.summed
      ∙ (listing_decides first second minimum g.enough g refl (ap (λ x. x.needed) is ∙ sym (ap (λ x. x.enough) is)) can.least
      ∙ (ap (λ x. leb x.enough (covered (listing first second minimum))) is ∙ words_tell first second minimum threshold))

  pub told_is : record { refusal = 0; reached = one (leb g.enough k.covered); tiles = k.count } ≡ told_answer 0 first second minimum threshold
  told_is =
      let v : k.count ≡ length (told_tiles first second minimum threshold) = ran.laid.counted ∙ ap length same_tiles in
      λ i. record { refusal = 0; reached = one (decides i); tiles = v i }
