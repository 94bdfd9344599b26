-- A chain stays one when words that are free are taken out of it and marked: the previous word and the next one point to one another, so that
-- no entry leads to a marked word from a free one; and the entries of the marked words pass over nothing that is free.
-- Assumes nothing.
use Prim.Native.Nat.{ℕ, zero, suc, ◌+◌, ◌-◌, ◌*◌, ◌/◌, ◌≤◌, ◌<◌}
use native.Mathlib.Decide.{dec_lt, ℕ_discrete}
use native.Mathlib.Omega.{arith}
use mathlib.Core.Path.{◌≡◌, refl, sym, ◌∙◌, ap, subst}
use mathlib.Core.Bool.{Bool, true, false}
use mathlib.Core.List.{List}
use borrow.Author.Tests.{lt-ltb, ltb-true, ltb-false}
use lib.Dec.{ltb}
use lib.ListN.{length, get_or, set, length-set}
use Rattle.tiling.specs.Run.{mark}
use Rattle.tiling.proofs.Run.{length_mark, mark_before, mark_inside, mark_after, mark_kept}
use Rattle.chain.specs.Chain.{Free, gap_before, next_of, before_of, entry, Ranged, Chained}
use Rattle.chain.specs.Unlinked.{pointed_on, pointed_back, led, unlinked}
use Rattle.chain.proofs.Entry.{gap_set, next_set, before_set, gap_other, next_other, before_other}

-- The next one is further on, and the one before is not.
pub next_above : (es : List ℕ) (i : ℕ) → i < next_of es i
unfolding next_of
next_above es i = omega arith

pub before_below : (es : List ℕ) (i : ℕ) → before_of es i ≤ i
unfolding before_of
before_below es i = omega arith

-- ---- the previous word points on
pub length_on : (before next : ℕ) (es : List ℕ) → length (pointed_on before next es) ≡ length es
unfolding pointed_on
length_on zero next es = refl
length_on (suc b) next es = length-set es b (entry b (before_of es b) next)

module _ (next : ℕ) (es : List ℕ) (r : Ranged es) (small : next ≤ 2048) where
  -- What it says, for a previous word at b.
  module _ (b : ℕ) (inside : b < length es) (high : b < next) where
    abbrev pointed : List ℕ
    pointed = set es b (entry b (before_of es b) next)

    here : next_of pointed b ≡ next
    here = next_set es b (before_of es b) next inside (before_below es b) high small

    back_here : before_of pointed b ≡ before_of es b
    back_here = before_set es b (before_of es b) next inside (before_below es b) high small

    gap_here : gap_before pointed b ≡ gap_before es b
    unfolding before_of
    gap_here = gap_set es b (before_of es b) next inside (before_below es b) high small ∙ omega (arith, r.back b inside)

    back_on : (k : ℕ) → Dec (k ≡ b) → before_of pointed k ≡ before_of es k
    back_on k (yes e) = rw e back_here
    back_on k (no d) = before_other es b (entry b (before_of es b) next) k d

    gap_on : (k : ℕ) → Dec (k ≡ b) → gap_before pointed k ≡ gap_before es k
    gap_on k (yes e) = rw e gap_here
    gap_on k (no d) = gap_other es b (entry b (before_of es b) next) k d

  pub on_next : (before : ℕ) → before ≤ length es → before ≤ next → 0 < before → next_of (pointed_on before next es) (before - 1) ≡ next
  unfolding pointed_on
  on_next zero h l z = absurd (omega arith)
  on_next (suc b) h l z = let e : suc b - 1 ≡ b = omega arith in rw e (here b (omega arith) (omega arith))

  pub on_other : (before k : ℕ) → (k + 1 ≡ before → ⊥) → next_of (pointed_on before next es) k ≡ next_of es k
  unfolding pointed_on
  on_other zero k d = refl
  on_other (suc b) k d = next_other es b (entry b (before_of es b) next) k (λ e. d (omega arith))

  pub on_before : (before k : ℕ) → before ≤ length es → before ≤ next → before_of (pointed_on before next es) k ≡ before_of es k
  unfolding pointed_on
  on_before zero k h l = refl
  on_before (suc b) k h l = back_on b (omega arith) (omega arith) k (ℕ_discrete k b)

  pub on_gap : (before k : ℕ) → before ≤ length es → before ≤ next → gap_before (pointed_on before next es) k ≡ gap_before es k
  unfolding pointed_on
  on_gap zero k h l = refl
  on_gap (suc b) k h l = gap_on b (omega arith) (omega arith) k (ℕ_discrete k b)

  -- So no entry leads outside.
  pub on_ranged : (before : ℕ) → before ≤ length es → before ≤ next → next ≤ length es → Ranged (pointed_on before next es)
  on_ranged before h l m =
      record {
        short = omega (arith, length_on before next es, r.short);
        ahead = λ k z. ahead k (omega (arith, z, length_on before next es)) (ℕ_discrete (k + 1) before);
        back = λ k z. omega (arith, on_gap before k h l, r.back k (omega (arith, z, length_on before next es)));
      }
    where
      ahead : (k : ℕ) → k < length es → Dec (k + 1 ≡ before) → next_of (pointed_on before next es) k ≤ length (pointed_on before next es)
      ahead k z (yes e) =
          let same : before - 1 ≡ k = omega arith in
          let n : next_of (pointed_on before next es) k ≡ next = subst (λ i. next_of (pointed_on before next es) i ≡ next) same (on_next before h l (omega arith)) in
          omega (arith, n, length_on before next es)
      ahead k z (no d) = omega (arith, on_other before k d, r.ahead k z, length_on before next es)

-- ---- the next word points back
length_pointed_back : (before next : ℕ) (es : List ℕ) → length (pointed_back before next es) ≡ length es
unfolding pointed_back
length_pointed_back before next es = go (ltb next (length es))
  where
    go : (b : Bool) → length {A = ℕ} (elim b [ true ↦ set es next (entry next before (next_of es next)) | false ↦ es ]) ≡ length es
    go true = length-set es next (entry next before (next_of es next))
    go false = refl

module _ (before next : ℕ) (es : List ℕ) (low : before ≤ next) (r : Ranged es) where
  abbrev back : List ℕ
  back = set es next (entry next before (next_of es next))

  is_back : next < length es → pointed_back before next es ≡ back
  unfolding pointed_back
  is_back h = rw (pointed_back, lt-ltb next (length es) h) refl

  go_back : (Q : List ℕ → Type 0) → (next < length es → Q back) → (length es ≤ next → Q es) → Q (pointed_back before next es)
  unfolding pointed_back
  go_back Q yes-back no-back = go (ltb next (length es)) refl
    where
      go : (b : Bool) → ltb next (length es) ≡ b → Q (elim b [ true ↦ back | false ↦ es ])
      go true e = yes-back (ltb-true next (length es) e)
      go false e = no-back (ltb-false next (length es) e)

  pub length_back : length (pointed_back before next es) ≡ length es
  length_back = length_pointed_back before next es

  small : next < length es → next_of es next ≤ 2048
  small h = omega (arith, r.ahead next h, r.short)

  pub back_before : next < length es → before_of (pointed_back before next es) next ≡ before
  back_before h = rw (is_back h) (before_set es next before (next_of es next) h low (next_above es next) (small h))

  pub back_other : (k : ℕ) → (k ≡ next → ⊥) → before_of (pointed_back before next es) k ≡ before_of es k
  back_other k d = go_back (λ xs. before_of xs k ≡ before_of es k) (λ h. before_other es next (entry next before (next_of es next)) k d) (λ h. refl)

  pub back_next : (k : ℕ) → next_of (pointed_back before next es) k ≡ next_of es k
  back_next k = go_back (λ xs. next_of xs k ≡ next_of es k) (λ h. at h (ℕ_discrete k next)) (λ h. refl)
    where
      at : next < length es → Dec (k ≡ next) → next_of back k ≡ next_of es k
      at h (yes e) = rw e (next_set es next before (next_of es next) h low (next_above es next) (small h))
      at h (no d) = next_other es next (entry next before (next_of es next)) k d

  pub back_ranged : Ranged (pointed_back before next es)
  back_ranged =
      record {
        short = omega (arith, length_back, r.short);
        ahead = λ k z. omega (arith, back_next k, length_back, r.ahead k (omega (arith, z, length_back)));
        back = λ k z. go_back (λ xs. gap_before xs k ≤ k) (λ h. gap k h (omega (arith, z, length_back)) (ℕ_discrete k next)) (λ h. r.back k (omega (arith, z, length_back)));
      }
    where
      gap : (k : ℕ) → next < length es → k < length es → Dec (k ≡ next) → gap_before back k ≤ k
      gap k h l (yes e) = rw e (omega (arith, gap_set es next before (next_of es next) h low (next_above es next) (small h)))
      gap k h l (no d) = omega (arith, gap_other es next (entry next before (next_of es next)) k d, r.back k l)

-- ---- a marked word may lead anywhere, as long as nothing free is passed over
module _ (ys es : List ℕ) (c : Chained ys es) (i before next : ℕ) (inside : i < length ys) (marked : get_or ys i 0 ≡ 0) (low : before ≤ i) (high : i < next) (within : next ≤ length ys) (behind : (k : ℕ) → before ≤ k → k < i → Free ys k → ⊥) (ahead : (k : ℕ) → i < k → k < next → Free ys k → ⊥) where
  abbrev new : List ℕ
  new = set es i (entry i before next)

  in_entries : i < length es
  in_entries = omega (arith, c.each)

  few : next ≤ 2048
  few = omega (arith, c.ranged.short, c.each)

  same : length new ≡ length es
  same = length-set es i (entry i before next)

  next_is : (k : ℕ) → (k ≡ i → ⊥) → next_of new k ≡ next_of es k
  next_is k d = next_other es i (entry i before next) k d

  before_is : (k : ℕ) → (k ≡ i → ⊥) → before_of new k ≡ before_of es k
  before_is k d = before_other es i (entry i before next) k d

  next_here : next_of new i ≡ next
  next_here = next_set es i before next in_entries low high few

  before_here : before_of new i ≡ before
  before_here = before_set es i before next in_entries low high few

  not_here : (k : ℕ) → Free ys k → k ≡ i → ⊥
  not_here k f e = f (ap (λ x. get_or ys x 0) e ∙ marked)

  pub chained_led : Chained ys new
  chained_led =
      record {
        ranged =
            record {
              short = omega (arith, same, c.ranged.short);
              ahead = λ k z. far k (omega (arith, z, same)) (ℕ_discrete k i);
              back = λ k z. near k (omega (arith, z, same)) (ℕ_discrete k i);
            };
        each = same ∙ c.each;
        passed = λ k u h a b f. passed k u h a b f (ℕ_discrete k i);
        next = λ k h f l.
            let e = next_is k (not_here k f) in
            subst (λ x. Free ys x) (sym e) (c.next k h f (omega (arith, l, e)));
        passed_back = λ k u h a b f. passed_back k u h a b f (ℕ_discrete k i);
        before = λ k h f l.
            let e = before_is k (not_here k f) in
            subst (λ x. Free ys (x - 1)) (sym e) (c.before k h f (omega (arith, l, e)));
      }
    where
      far : (k : ℕ) → k < length es → Dec (k ≡ i) → next_of new k ≤ length new
      far k z (yes e) = let n : next_of new k ≡ next = subst (λ x. next_of new x ≡ next) (sym e) next_here in omega (arith, n, same, c.each)
      far k z (no d) = omega (arith, next_is k d, same, c.ranged.ahead k z)

      near : (k : ℕ) → k < length es → Dec (k ≡ i) → gap_before new k ≤ k
      near k z (yes e) = rw e (omega (arith, gap_set es i before next in_entries low high few))
      near k z (no d) = omega (arith, gap_other es i (entry i before next) k d, c.ranged.back k z)

      passed : (k u : ℕ) → k < length ys → k < u → u < next_of new k → Free ys u → Dec (k ≡ i) → ⊥
      passed k u h a b f (yes e) = let n : next_of new k ≡ next = subst (λ x. next_of new x ≡ next) (sym e) next_here in ahead u (omega (arith, e)) (omega (arith, n)) f
      passed k u h a b f (no d) = c.passed k u h a (omega (arith, next_is k d)) f

      passed_back : (k u : ℕ) → k < length ys → before_of new k ≤ u → u < k → Free ys u → Dec (k ≡ i) → ⊥
      passed_back k u h a b f (yes e) = let n : before_of new k ≡ before = subst (λ x. before_of new x ≡ before) (sym e) before_here in behind u (omega (arith, n)) (omega (arith, e)) f
      passed_back k u h a b f (no d) = c.passed_back k u h (omega (arith, before_is k d)) b f

-- ---- free words are taken out and marked
module _ (xs es : List ℕ) (c : Chained xs es) (at len : ℕ) (some : 1 ≤ len) (within : at + len ≤ length xs) (free : (i : ℕ) → i < len → Free xs (at + i)) where
  abbrev ys : List ℕ
  ys = mark at len xs

  abbrev last : ℕ
  last = at + len - 1

  abbrev before : ℕ
  before = before_of es at

  abbrev next : ℕ
  next = next_of es last

  abbrev on : List ℕ
  on = pointed_on before next es

  abbrev mended : List ℕ
  mended = pointed_back before next on

  room : length es ≡ length xs
  room = c.each

  same_words : length ys ≡ length xs
  same_words = length_mark at len xs

  free_at_lem : Free xs at
  free_at_lem = let e : at + 0 ≡ at = omega arith in rw e at (free 0 (omega arith))

  free_last_lem : Free xs last
  free_last_lem = let e : at + (len - 1) ≡ last = omega arith in rw e at (free (len - 1) (omega arith))

  low : before ≤ at
  low = before_below es at

  high : last < next
  high = next_above es last

  inside : next ≤ length es
  inside = c.ranged.ahead last (omega (arith, room))

  few_words : next ≤ 2048
  few_words = omega (arith, inside, c.ranged.short)

  -- What is free after it was free before, and lies outside.
  was_free : (k : ℕ) → Free ys k → Free xs k
  was_free k f = subst (λ w. w ≡ 0 → ⊥) (mark_kept at len xs k f) f

  outside : (k : ℕ) → Free ys k → at ≤ k → k < at + len → ⊥
  outside k f h l = f (mark_inside at len xs k h l)

  free_before : (k : ℕ) → k < at → Free xs k → Free ys k
  free_before k h f = subst (λ w. w ≡ 0 → ⊥) (sym (mark_before at len xs k h)) f

  free_after : (k : ℕ) → at + len ≤ k → Free xs k → Free ys k
  free_after k h f = subst (λ w. w ≡ 0 → ⊥) (sym (mark_after at len xs k h)) f

  -- Nothing is free between the previous word and the next one.
  none_between : (k : ℕ) → before ≤ k → k < next → Free ys k → ⊥
  none_between k h l f = go (dec_lt k at) (dec_lt k (at + len))
    where
      go : Dec (k < at) → Dec (k < at + len) → ⊥
      go (yes a) d = c.passed_back at k (omega arith) h a (was_free k f)
      go (no a) (yes b) = outside k f (omega (arith, a)) b
      go (no a) (no b) = c.passed last k (omega arith) (omega (arith, b)) l (was_free k f)

  -- ---- the entries
  on_length : length on ≡ length es
  on_length = length_on before next es

  on_range : Ranged on
  on_range = on_ranged next es c.ranged few_words before (omega (arith, low, room)) (omega (arith, low, high)) inside

  mended_length : length mended ≡ length es
  mended_length = length_back before next on (omega (arith, low, high)) on_range ∙ on_length

  next_mended : 0 < before → next_of mended (before - 1) ≡ next
  next_mended z = back_next before next on (omega (arith, low, high)) on_range (before - 1) ∙ on_next next es c.ranged few_words before (omega (arith, low, room)) (omega (arith, low, high)) z

  next_kept : (k : ℕ) → (k + 1 ≡ before → ⊥) → next_of mended k ≡ next_of es k
  next_kept k d = back_next before next on (omega (arith, low, high)) on_range k ∙ on_other next es c.ranged few_words before k d

  before_mended : next < length es → before_of mended next ≡ before
  before_mended h = back_before before next on (omega (arith, low, high)) on_range (omega (arith, h, on_length))

  before_kept : (k : ℕ) → (k ≡ next → ⊥) → before_of mended k ≡ before_of es k
  before_kept k d =
      back_other before next on (omega (arith, low, high)) on_range k d
      ∙ on_before next es c.ranged few_words before k (omega (arith, low, room)) (omega (arith, low, high))

  -- ---- forwards
  passed : (i k : ℕ) → i < length ys → i < k → k < next_of mended i → Free ys k → Dec (i + 1 ≡ before) → ⊥
  passed i k h a b f (yes e) =
      let same : before - 1 ≡ i = omega arith in
      let n : next_of mended i ≡ next = subst (λ x. next_of mended x ≡ next) same (next_mended (omega arith)) in
      none_between k (omega arith) (omega (arith, n)) f
  passed i k h a b f (no d) = c.passed i k (omega (arith, same_words)) a (omega (arith, next_kept i d)) (was_free k f)

  -- A free word does not lead to the first that was taken out, unless it is the previous one.
  not_into : (i : ℕ) → i < length xs → Free ys i → (i + 1 ≡ before → ⊥) → next_of es i ≡ at → ⊥
  not_into i h f d e = go (dec_lt i before)
    where
      below : i < at
      below = omega (arith, e, next_above es i)

      go : Dec (i < before) → ⊥
      go (no l) = c.passed_back at i (omega arith) (omega (arith, l)) below (was_free i f)
      go (yes l) = c.passed i (before - 1) h (omega (arith, d)) (omega (arith, e, low)) (c.before at (omega arith) free_at_lem (omega arith))

  next_free : (i : ℕ) → i < length xs → Free ys i → next_of mended i < length xs → Dec (i + 1 ≡ before) → Free ys (next_of mended i)
  next_free i h f l (yes e) =
      let same : before - 1 ≡ i = omega arith in
      let n : next_of mended i ≡ next = subst (λ x. next_of mended x ≡ next) same (next_mended (omega arith)) in
      subst (λ x. Free ys x) (sym n) (free_after next (omega (arith, high)) (c.next last (omega arith) free_last_lem (omega (arith, n))))
  next_free i h f l (no d) = subst (λ x. Free ys x) (sym n) (go (dec_lt z at) (dec_lt z (at + len)))
    where
      z : ℕ
      z = next_of es i

      n : next_of mended i ≡ next_of es i
      n = next_kept i d

      there : Free xs (next_of es i)
      there = c.next i h (was_free i f) (omega (arith, l, n))

      go : Dec (z < at) → Dec (z < at + len) → Free ys (next_of es i)
      go (yes a) b = free_before (next_of es i) a there
      go (no a) (no b) = free_after (next_of es i) (omega (arith, b)) there
      go (no a) (yes b) = absurd (hit (dec_lt i at) (dec_lt at z))
        where
          hit : Dec (i < at) → Dec (at < z) → ⊥
          hit (no u) v = outside i f (omega (arith, u)) (omega (arith, next_above es i))
          hit (yes u) (yes v) = c.passed i at h u v free_at_lem
          hit (yes u) (no v) = not_into i h f d (omega (arith, a, v))

  -- ---- backwards
  passed_back : (i k : ℕ) → i < length xs → before_of mended i ≤ k → k < i → Free ys k → Dec (i ≡ next) → ⊥
  passed_back i k h a b f (yes e) =
      let n : before_of mended i ≡ before = subst (λ x. before_of mended x ≡ before) (sym e) (before_mended (omega (arith, e, room))) in
      none_between k (omega (arith, n)) (omega (arith, e)) f
  passed_back i k h a b f (no d) = c.passed_back i k h (omega (arith, before_kept i d)) b (was_free k f)

  -- A free word does not lead back to the last that was taken out, unless it is the next one.
  not_back : (i : ℕ) → i < length xs → Free ys i → (i ≡ next → ⊥) → before_of es i ≡ at + len → ⊥
  not_back i h f d e = go (dec_lt i next)
    where
      go : Dec (i < next) → ⊥
      go (yes l) = c.passed last i (omega arith) (omega (arith, e, before_below es i)) l (was_free i f)
      go (no l) = c.passed_back i next h (omega (arith, e, high)) (omega (arith, l, d)) (c.next last (omega arith) free_last_lem (omega (arith, l, d)))

  before_free : (i : ℕ) → i < length xs → Free ys i → 0 < before_of mended i → Dec (i ≡ next) → Free ys (before_of mended i - 1)
  before_free i h f l (yes e) =
      let n : before_of mended i ≡ before = subst (λ x. before_of mended x ≡ before) (sym e) (before_mended (omega (arith, e, room))) in
      subst (λ x. Free ys (x - 1)) (sym n) (free_before (before - 1) (omega (arith, low, n)) (c.before at (omega arith) free_at_lem (omega (arith, n))))
  before_free i h f l (no d) = subst (λ x. Free ys (x - 1)) (sym n) (go (dec_lt (z - 1) at) (dec_lt (z - 1) (at + len)))
    where
      z : ℕ
      z = before_of es i

      n : before_of mended i ≡ before_of es i
      n = before_kept i d

      there : Free xs (before_of es i - 1)
      there = c.before i h (was_free i f) (omega (arith, l, n))

      go : Dec (z - 1 < at) → Dec (z - 1 < at + len) → Free ys (before_of es i - 1)
      go (yes a) b = free_before (before_of es i - 1) a there
      go (no a) (no b) = free_after (before_of es i - 1) (omega (arith, b)) there
      go (no a) (yes b) = absurd (hit (dec_lt i (at + len)) (dec_lt (z - 1) last))
        where
          hit : Dec (i < at + len) → Dec (z - 1 < last) → ⊥
          hit (yes u) v = outside i f (omega (arith, a, before_below es i)) u
          hit (no u) (yes v) = c.passed_back i last h (omega arith) (omega (arith, u)) free_last_lem
          hit (no u) (no v) = not_back i h f d (omega (arith, b, v, l, n))

  chained_mended : Chained ys mended
  chained_mended =
      record {
        ranged = back_ranged before next on (omega (arith, low, high)) on_range;
        each = mended_length ∙ (room ∙ sym same_words);
        passed = λ i k h a b f. passed i k h a b f (ℕ_discrete (i + 1) before);
        next = λ i h f l. next_free i (omega (arith, h, same_words)) f (omega (arith, l, same_words)) (ℕ_discrete (i + 1) before);
        passed_back = λ i k h a b f. passed_back i k (omega (arith, h, same_words)) a b f (ℕ_discrete i next);
        before = λ i h f l. before_free i (omega (arith, h, same_words)) f l (ℕ_discrete i next);
      }

  -- ---- the words that were taken out lead to the same two
  chained_more : (es' : List ℕ) (i : ℕ) → at ≤ i → i ≤ last → Chained ys es' → Chained ys (set es' i (entry i before next))
  chained_more es' i h l k =
      chained_led ys es' k i before next (omega (arith, same_words)) (mark_inside at len xs i h (omega arith)) (omega (arith, low)) (omega (arith, high)) (omega (arith, inside, room, same_words))
      (λ u a b f. none_between u a (omega (arith, high)) f) (λ u a b f. none_between u (omega (arith, low)) b f)

  chained_led_all : (es' : List ℕ) (n : ℕ) → at / 32 + n ≤ last / 32 → Chained ys es' → Chained ys (led before next (at / 32) n es')
  unfolding led
  chained_led_all es' zero h k = k
  chained_led_all es' (suc n) h k =
      chained_more (led before next (at / 32) n es') (32 * (at / 32 + suc n)) (omega arith) (omega arith) (chained_led_all es' n (omega arith) k)

  pub chained_unlinked : Chained ys (unlinked at len es)
  unfolding unlinked
  chained_unlinked =
      chained_led_all
      (set (set mended at (entry at before next)) last (entry last before next))
      (last / 32 - at / 32)
      (omega arith)
      (chained_more (set mended at (entry at before next)) last (omega arith) (omega arith) (chained_more mended at (omega arith) (omega arith) chained_mended))

-- ---- as many entries as before
length_led : (before next b n : ℕ) (es : List ℕ) → length (led before next b n es) ≡ length es
unfolding led
length_led before next b zero es = refl
length_led before next b (suc n) es =
    length-set (led before next b n es) (32 * (b + suc n)) (entry (32 * (b + suc n)) before next) ∙ length_led before next b n es

pub length_unlinked : (at len : ℕ) (es : List ℕ) → length (unlinked at len es) ≡ length es
unfolding unlinked
length_unlinked at len es =
    let last = at + len - 1 in
    let before = before_of es at in
    let next = next_of es last in
    let es₂ = pointed_back before next (pointed_on before next es) in
    length_led before next (at / 32) (last / 32 - at / 32) (set (set es₂ at (entry at before next)) last (entry last before next))
    ∙ (length-set (set es₂ at (entry at before next)) last (entry last before next)
    ∙ (length-set es₂ at (entry at before next) ∙ (length_pointed_back before next (pointed_on before next es) ∙ length_on before next es)))

-- ---- at the start
zero_next : (es : List ℕ) (i : ℕ) → get_or es i 0 ≡ 0 → next_of es i ≡ i + 1
unfolding next_of
zero_next es i e = rw e (omega arith)

zero_before : (es : List ℕ) (i : ℕ) → get_or es i 0 ≡ 0 → before_of es i ≡ i
unfolding before_of
zero_before es i e = rw e (omega arith)

-- All words are free, and all entries are 0.
pub chained_start : (xs es : List ℕ) → length xs ≤ 2048 → length es ≡ length xs → ((i : ℕ) → i < length xs → Free xs i) → ((i : ℕ) → i < length es → get_or es i 0 ≡ 0) → Chained xs es
chained_start xs es short each free zeros =
    record {
      ranged =
          record {
            short = omega (arith, each);
            ahead = λ i h. omega (arith, next_is i (omega (arith, each)));
            back = λ i h. rw (zeros i h) (omega arith);
          };
      each = each;
      passed = λ i k h a b f. absurd (omega (arith, next_is i h));
      next = λ i h f l. free (next_of es i) l;
      passed_back = λ i k h a b f. absurd (omega (arith, before_is i h));
      before = λ i h f l. free (before_of es i - 1) (omega (arith, before_is i h));
    }
  where
    next_is : (i : ℕ) → i < length xs → next_of es i ≡ i + 1
    next_is i h = zero_next es i (zeros i (omega (arith, each)))

    before_is : (i : ℕ) → i < length xs → before_of es i ≡ i
    before_is i h = zero_before es i (zeros i (omega (arith, each)))
