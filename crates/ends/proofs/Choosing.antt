-- The loop that chooses the pattern of two sequences of one length: the words before i are equal, so those from i on choose. It begins after
-- the run that both begin with: equal calls are equal words.
-- Assumes nothing.
use Prim.Native.Nat.{ℕ, zero, suc, ◌+◌, ◌≤◌, ◌<◌, max}
use native.Mathlib.Omega.{arith}
use native.Mathlib.Numerals.{add-one}
use mathlib.Core.Path.{◌≡◌, refl, sym, ◌∙◌}
use mathlib.Core.Bool.{true}
use mathlib.Core.List.{List}
use lib.Dec.{ltb}
use lib.ListN.{length, drop, get_or, drop_of_length-le}
use lib.Seq.{drop-cons}
use Rattle.symbol.specs.Word.{equal_calls}
use Rattle.symbol.proofs.Word.{calls_equal}
use Rattle.tiling.specs.Run.{equal_run}
use Rattle.tiling.proofs.Leading.{leading_within, leading_passes}
use Rattle.tiling.specs.Choice.{first_by_words, first_is_pattern}
use Rattle.tiling.proofs.Choice.{words_equal, words_differ, by_words, by_length}

pub record Alike (first second : List ℕ) (i : ℕ) : Type 0 where
  pub long : length first ≡ length second
  pub within : i ≤ length first
  pub chosen : first_is_pattern first second ≡ first_by_words (drop i first) (drop i second)

pub lengths_choose : (first second : List ℕ) → (length first ≡ length second → ⊥) → ltb (length first) (length second) ≡ first_is_pattern first second
lengths_choose first second d = sym (by_length first second d)

pub alike_none : (first second : List ℕ) → length first ≡ length second → Alike first second 0
alike_none first second e = record { long = e; within = omega arith; chosen = by_words first second e }

module _ (first second : List ℕ) (i : ℕ) (a : Alike first second i) where
  module _ (h : i < length first) where
    -- The words from i on, one by one.
    abbrev x : ℕ
    x = get_or first i 0

    abbrev y : ℕ
    y = get_or second i 0

    second_too : i < length second
    second_too = omega (arith, a.long)

    pub alike_more : x ≡ y → Alike first second (i + 1)
    alike_more e =
        record {
          long = a.long;
          within = omega arith;
          chosen = a.chosen ∙ rw (drop-cons first i 0 h, drop-cons second i 0 second_too, add-one i) (words_equal x y _ _ e);
        }

    pub word_chooses : (x ≡ y → ⊥) → ltb x y ≡ first_is_pattern first second
    word_chooses d = sym (a.chosen ∙ rw (drop-cons first i 0 h, drop-cons second i 0 second_too) (words_differ x y _ _ d))

  pub none_differs : length first ≤ i → true ≡ first_is_pattern first second
  unfolding first_by_words
  none_differs h = sym (a.chosen ∙ rw (drop_of_length-le first h) refl)

-- The words of a run.
alike_upto : (first second : List ℕ) → length first ≡ length second → (i : ℕ) → i ≤ equal_run first second → Alike first second i
alike_upto first second e zero h = alike_none first second e
alike_upto first second e (suc i) h =
    let inside : i < length first = omega (arith, leading_within equal_calls first second) in
    let equal : get_or first i 0 ≡ get_or second i 0 = calls_equal _ _ (leading_passes equal_calls first second i (omega arith)) in
    rw (← add-one i) (alike_more first second i (alike_upto first second e i (omega arith)) inside equal)

pub alike_run : (first second : List ℕ) (i : ℕ) → length first ≡ length second → i ≡ max 0 (equal_run first second) → Alike first second i
alike_run first second i e k = alike_upto first second e i (omega arith)
