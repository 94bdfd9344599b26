-- The threshold as a number of covered words: just from so many words on the score is at least the threshold. So the test of the goal is
-- the test by scores, and a comparison with this goal stops when it is told.
-- Assumes nothing.
use Prim.Native.Nat.{ℕ, zero, suc, ◌+◌, ◌*◌, ◌/◌, ◌%◌, ◌≤◌, ◌<◌, min}
use native.Mathlib.Nat.{le-div_iff_mul-le}
use native.Mathlib.Decide.{dec_le}
use native.Mathlib.Omega.{arith}
use mathlib.Core.Path.{◌≡◌, refl, sym, ◌∙◌, ap}
use mathlib.Core.Bool.{Bool, not}
use mathlib.Core.List.{List, [], ◌∷◌}
use borrow.Author.Tests.{le-leb, lt-leb, lt-ltb, le-ltb}
use lib.Dec.{leb, ltb}
use lib.ListN.{length}
use Rattle.tiling.specs.Greedy.{greedy}
use Rattle.tiling.specs.Tiling.{tiling_by}
use Rattle.tiling.specs.Stretch.{fillable}
use Rattle.tiling.specs.Choice.{first_by_words, first_is_pattern, pattern_of}
use Rattle.tiling.specs.Listing.{Entry, start_on_pattern, listing, covered, score}
use Rattle.tiling.specs.Until.{Far, unlaid, until, first_listed}
use Rattle.tiling.proofs.Until.{until_same}
use Rattle.sweep.specs.Goal.{stopped}
use Rattle.threshold.specs.Promise.{reaches, told, told_tiles}
use Rattle.threshold.specs.Words.{words_for, goal_for}

-- ---- words and scores
-- Two tests of numbers that hold together.
both : {a b c d : ℕ} → (a ≤ b → c ≤ d) → (c ≤ d → a ≤ b) → leb a b ≡ leb c d
both {a} {b} {c} {d} to from = go (dec_le a b)
  where
    go : Dec (a ≤ b) → leb a b ≡ leb c d
    go (yes h) = le-leb a b h ∙ sym (le-leb c d (to h))
    go (no h) = lt-leb a b (omega (arith, h)) ∙ sym (lt-leb c d (below (dec_le c d)))
      where
        below : Dec (c ≤ d) → d < c
        below (yes l) = absurd (h (from l))
        below (no l) = omega (arith, l)

-- Rounded up, a quotient is at most c just where the number is at most c times the divisor.
rounded : (x c : ℕ) → (x + 1999) / 2000 ≤ c → x ≤ 2000 * c
rounded x c h = go (dec_le x (2000 * c))
  where
    go : Dec (x ≤ 2000 * c) → x ≤ 2000 * c
    go (yes l) = l
    go (no l) = let m : suc c ≤ (x + 1999) / 2000 = (le-div_iff_mul-le {k = 2000} (omega arith)).1 (omega (arith, l)) in absurd (omega arith)

rounded_back : (x c : ℕ) → x ≤ 2000 * c → (x + 1999) / 2000 ≤ c
rounded_back x c h = go (dec_le ((x + 1999) / 2000) c)
  where
    go : Dec ((x + 1999) / 2000 ≤ c) → (x + 1999) / 2000 ≤ c
    go (yes l) = l
    go (no l) = let m : suc c * 2000 ≤ x + 1999 = (le-div_iff_mul-le {k = 2000} (omega arith)).0 (omega (arith, l)) in absurd (omega arith)

pub words_reach : (threshold total c : ℕ) → leb (words_for threshold (suc total)) c ≡ reaches threshold (suc total) c
unfolding words_for score
words_reach threshold total c =
    both
    (λ h. (le-div_iff_mul-le {k = suc total} (omega arith)).1 (rounded (threshold * suc total) c h))
    (λ h. rounded_back (threshold * suc total) c ((le-div_iff_mul-le {k = suc total} (omega arith)).0 h))

-- ---- the test of the goal
below_not : (a b : ℕ) → ltb a b ≡ not (leb b a)
below_not a b = go (dec_le b a)
  where
    go : Dec (b ≤ a) → ltb a b ≡ not (leb b a)
    go (yes h) = le-ltb a b h ∙ ap not (sym (le-leb b a h))
    go (no h) = let l : a < b = omega (arith, h) in lt-ltb a b l ∙ ap not (sym (lt-leb b a l))

stops_told : (threshold total minimum : ℕ) (f : Far) → stopped (goal_for threshold (suc total)) minimum f ≡ told threshold (suc total) minimum f
unfolding stopped told
stops_told threshold total minimum f =
    let c = f.covered in
    let r = c + fillable minimum f.pattern in
    rw (below_not r (words_for threshold (suc total)), words_reach threshold total c, words_reach threshold total r) refl

-- Nothing is laid of two empty sequences.
none_listed : (first second : List ℕ) (minimum : ℕ) → length first + length second ≡ 0 → listing first second minimum ≡ []
unfolding listing first_is_pattern first_by_words tiling_by greedy
none_listed [] [] minimum e = refl
none_listed [] (y ∷ ys) minimum e = absurd (omega arith)
none_listed (x ∷ xs) ys minimum e = absurd (omega arith)

pub goal_tells : (first second : List ℕ) (minimum threshold : ℕ) → first_listed (stopped (goal_for threshold (length first + length second)) minimum) first second minimum ≡ told_tiles first second minimum threshold
unfolding until
goal_tells first second minimum threshold = go (length first + length second) refl
  where
    tiles : (Far → Bool) → List Entry
    tiles stop = first_listed stop first second minimum

    nothing : length first + length second ≡ 0 → (stop : Far → Bool) → tiles stop ≡ []
    nothing z stop = ap (until (start_on_pattern (first_is_pattern first second)) (λ e. e.len) stop (unlaid (pattern_of first second))) (none_listed first second minimum z)

    go : (total : ℕ) → length first + length second ≡ total → tiles (stopped (goal_for threshold (length first + length second)) minimum) ≡ tiles (told threshold (length first + length second) minimum)
    go zero z = nothing z (stopped (goal_for threshold (length first + length second)) minimum) ∙ sym (nothing z (told threshold (length first + length second) minimum))
    go (suc total) e =
        rw e
        (until_same (start_on_pattern (first_is_pattern first second)) (λ e. e.len) (told threshold (suc total) minimum) (stopped (goal_for threshold (suc total)) minimum) (stops_told threshold total minimum) (unlaid (pattern_of first second)) (listing first second minimum))

-- What the listing covers reaches the threshold just where it has so many words.
pub words_tell : (first second : List ℕ) (minimum threshold : ℕ) → leb (words_for threshold (length first + length second)) (covered (listing first second minimum)) ≡ reaches threshold (length first + length second) (covered (listing first second minimum))
unfolding words_for score covered
words_tell first second minimum threshold = go (length first + length second) refl
  where
    go : (total : ℕ) → length first + length second ≡ total → leb (words_for threshold (length first + length second)) (covered (listing first second minimum)) ≡ reaches threshold (length first + length second) (covered (listing first second minimum))
    go zero z = rw (none_listed first second minimum z, z) refl
    go (suc total) e = rw e (words_reach threshold total (covered (listing first second minimum)))

-- ---- the numbers of the code
pub words_none : (threshold total : ℕ) → total ≡ 0 → threshold ≡ words_for threshold total
unfolding words_for
words_none threshold total z = rw z refl

rounded_up : (x r : ℕ) → r ≡ x / 2000 + min 1 (x % 2000) → r ≡ (x + 1999) / 2000
rounded_up x r e = omega (arith, e)

pub words_some : (threshold total r : ℕ) → (total ≡ 0 → ⊥) → r ≡ threshold * total / 2000 + min 1 (threshold * total % 2000) → r ≡ words_for threshold total
unfolding words_for
words_some threshold zero r d e = absurd (d refl)
words_some threshold (suc total) r d e = rounded_up (threshold * suc total) r e
