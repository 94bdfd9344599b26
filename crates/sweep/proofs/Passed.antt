-- What is passed over after a run. Where a row begins with one word again and again, a run of no more words than these ends at a word of the
-- text that is none of them, and so does every run that begins within it: it is shorter.
-- Assumes nothing.
use Prim.Native.Nat.{ℕ, zero, suc, ◌+◌, ◌-◌, ◌≤◌, ◌<◌}
use native.Mathlib.Decide.{dec_le}
use native.Mathlib.Omega.{arith}
use mathlib.Core.Path.{◌≡◌, refl, sym, ◌∙◌, ap}
use mathlib.Core.Bool.{false}
use mathlib.Core.List.{List}
use borrow.Author.Tests.{le-leb, lt-leb}
use lib.ListN.{length, drop, get_or}
use lib.Seq.{get_or-drop}
use Rattle.symbol.specs.Word.{equal_calls, matches}
use Rattle.symbol.specs.Sequence.{Current}
use Rattle.symbol.proofs.Retired.{match_equal}
use Rattle.symbol.proofs.Sequence.{current_at, current_drop}
use Rattle.tiling.specs.Run.{run, equal_run}
use Rattle.tiling.proofs.Leading.{leading_within}
use Rattle.tiling.proofs.Run.{run_match, run_stops, run_most}
use Rattle.tiling.proofs.Replaced.{run_current}
use Rattle.measure.specs.Block.{counted}
use Rattle.measure.proofs.Longer.{counted_some}
use Rattle.sweep.specs.Row.{passed_over}

pub passed_within : (c len : ℕ) → len ≤ c → len ≡ passed_over c len
unfolding passed_over
passed_within c len h = rw (passed_over, le-leb len c h) refl

pub passed_beyond : (c len : ℕ) → c < len → 0 ≡ passed_over c len
unfolding passed_over
passed_beyond c len h = rw (passed_over, lt-leb len c h) refl

pub passed_most : (c len skip : ℕ) → skip ≡ passed_over c len → skip ≤ len
passed_most c len skip e = go (dec_le len c)
  where
    go : Dec (len ≤ c) → skip ≤ len
    go (yes h) = omega (arith, e, passed_within c len h)
    go (no h) = omega (arith, e, passed_beyond c len (omega (arith, h)))

-- The row against itself, one word further on.
pub repeats_none : (ps : List ℕ) → length ps ≡ 0 → 0 ≡ equal_run ps (drop 1 ps)
repeats_none ps h = omega (arith, leading_within equal_calls ps (drop 1 ps))

module _ (ps ts : List ℕ) (current-row : Current ps) (again : ℕ) (repeated : again ≡ equal_run ps (drop 1 ps)) where
  -- The first words of the row are one word again and again.
  alike : (i : ℕ) → i ≤ again → get_or ps i 0 ≡ get_or ps 0 0
  alike zero h = refl
  alike (suc i) h = sym next ∙ alike i (omega arith)
    where
      own : run ps (drop 1 ps) ≡ again
      own = sym (run_current ps (drop 1 ps) current-row (current_drop 1 ps current-row)) ∙ sym repeated

      next : get_or ps i 0 ≡ get_or ps (suc i) 0
      next =
          let same = match_equal (get_or ps i 0) (get_or (drop 1 ps) i 0) (run_match ps (drop 1 ps) i (omega (arith, own))) in
          sym (current_at ps current-row i) ∙ (same ∙ (current_at (drop 1 ps) (current_drop 1 ps current-row) i ∙ (get_or-drop 1 ps i 0 ∙ ap (λ (k : ℕ). get_or ps k 0) (omega arith))))

  module _ (r best len : ℕ) (measured : len ≡ counted best (run ps (drop r ts))) where
    -- A position within the run: the word that ended it is none of these.
    within_run : len ≤ again → (u : ℕ) → r < u → u ≤ r + len → run ps (drop u ts) < len
    within_run low u b d =
        let i = r + len - u in
        let exact : len ≡ run ps (drop r ts) = measured ∙ counted_some best (run ps (drop r ts)) (omega (arith, measured)) in
        let there : u + i ≡ r + len = omega arith in
        let word : get_or (drop u ts) i 0 ≡ get_or (drop r ts) len 0 = get_or-drop u ts i 0 ∙ (ap (λ (k : ℕ). get_or ts k 0) there ∙ sym (get_or-drop r ts len 0)) in
        let first : get_or ps i 0 ≡ get_or ps len 0 = alike i (omega arith) ∙ sym (alike len low) in
        let stop : matches (get_or ps len 0) (get_or (drop r ts) len 0) ≡ false = rw (exact) (run_stops ps (drop r ts)) in
        let none : matches (get_or ps i 0) (get_or (drop u ts) i 0) ≡ false = rw (first, word) stop in
        omega (arith, run_most ps (drop u ts) i none)

    pub passed_shorter : (skip : ℕ) → skip ≡ passed_over again len → (u : ℕ) → r < u → u < r + 1 + skip → run ps (drop u ts) < len
    passed_shorter skip e u b d = go (dec_le len again)
      where
        go : Dec (len ≤ again) → run ps (drop u ts) < len
        go (yes h) = within_run h u b (omega (arith, e, passed_within again len h))
        go (no h) = absurd (omega (arith, e, passed_beyond again len (omega (arith, h))))
