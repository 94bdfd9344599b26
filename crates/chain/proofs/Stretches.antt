-- Going along the chain from any word, and the stretches of free words that it shows. A word that is not free leads past words that are not
-- free either. A free word whose entry is 0 has free neighbours on either side, so that entries of 0 join words to one stretch.
-- Assumes nothing.
use Prim.Native.Nat.{ℕ, zero, suc, ◌+◌, ◌-◌, ◌/◌, ◌≤◌, ◌<◌}
use native.Mathlib.Nat.{not-suc-le-zero, le_of_suc-le-suc}
use native.Mathlib.Decide.{ℕ_discrete}
use native.Mathlib.Omega.{arith}
use mathlib.Core.Path.{◌≡◌, refl, sym, ◌∙◌}
use mathlib.Core.Bool.{Bool, true, false, ◌&&◌}
use mathlib.Core.List.{List, [], ◌∷◌}
use borrow.Author.Tests.{eqb-true, eq-eqb}
use lib.Dec.{eqb}
use lib.ListN.{length, get_or, take, drop, length-take, length-drop}
use lib.Seq.{get_or-take, get_or-drop, take_all}
use Rattle.std.specs.List.{fold}
use Rattle.chain.specs.First.{Last, Passing}
use Rattle.chain.specs.Chain.{Free, next_of, before_of, Chained}
use Rattle.chain.specs.Stretches.{Zeros, ZerosFrom, Joined, StretchBefore}
use Rattle.chain.proofs.First.{passing_to}
use Rattle.chain.proofs.Last.{Returning, returning_to}

-- ---- from a word that is not free to the next free one, and to the one before
module _ (xs es : List ℕ) (h : Chained xs es) where
  module _ (from at : ℕ) (p : Passing (Free xs) from (length xs) at) where
    pub chain_on : at < length xs → eqb (get_or xs at 0) 0 ≡ true → (next : ℕ) → next ≡ next_of es at → Passing (Free xs) from (length xs) next
    unfolding next_of
    chain_on l m next e =
        passing_to
        (Free xs)
        from
        (length xs)
        at
        p
        next
        (omega arith)
        (omega (arith, h.ranged.ahead at (omega (arith, h.each)), h.each))
        (λ k a b. none k a b (ℕ_discrete k at))
      where
        none : (k : ℕ) → at ≤ k → k < next → Dec (k ≡ at) → Free xs k → ⊥
        none k a b (yes i) q = q (rw i (eqb-true (get_or xs at 0) 0 m))
        none k a b (no d) q = h.passed at k l (omega (arith, d)) (omega arith) q

  pub chain_on_less : (at next : ℕ) → at < length xs → next ≡ next_of es at → length xs - next < length xs - at
  unfolding next_of
  chain_on_less at next l e = omega arith

  module _ (to end : ℕ) (p : Returning (Free xs) to end) (l : 0 < end) where
    pub chain_back : to ≤ length xs → eqb (get_or xs (end - 1) 0) 0 ≡ true → (before : ℕ) → before ≡ before_of es (end - 1) → Returning (Free xs) to before
    unfolding before_of
    chain_back w m before e =
        returning_to (Free xs) to end p before (omega arith) (λ k a b. none k a b (ℕ_discrete k (end - 1)))
      where
        none : (k : ℕ) → before ≤ k → k < end → Dec (k ≡ end - 1) → Free xs k → ⊥
        none k a b (yes i) q = q (rw i (eqb-true (get_or xs (end - 1) 0) 0 m))
        none k a b (no d) q = h.passed_back (end - 1) k (omega (arith, p.within)) (omega arith) (omega (arith, d)) q

  pub chain_back_less : (end before : ℕ) → 0 < end → before ≡ before_of es (end - 1) → before < end
  unfolding before_of
  chain_back_less end before l e = omega arith

-- ---- words that are 0
abbrev pub is_zero : ℕ → Bool
is_zero w = eqb w 0

both : (a b : Bool) → (a && b) ≡ true → (a ≡ true) × (b ≡ true)
both true b e = (refl, e)
both false b e = cc

-- A fold over all words tells whether they are all 0.
fold_zero : (a : Bool) (ws : List ℕ) → fold (λ all w. all && is_zero w) a ws ≡ true → (a ≡ true) × ((i : ℕ) → i < length ws → get_or ws i 0 ≡ 0)
fold_zero a [] e = (e, λ i l. absurd (not-suc-le-zero l))
fold_zero a (w ∷ ws) e = let k = fold_zero (a && is_zero w) ws e in let b = both a (is_zero w) k.0 in (b.0, at k.1 (eqb-true w 0 b.1))
  where
    at : ((i : ℕ) → i < length ws → get_or ws i 0 ≡ 0) → w ≡ 0 → (i : ℕ) → i < length (w ∷ ws) → get_or (w ∷ ws) i 0 ≡ 0
    at k z zero l = z
    at k z (suc i) l = k i (le_of_suc-le-suc l)

zero_fold : (ws : List ℕ) → ((i : ℕ) → i < length ws → get_or ws i 0 ≡ 0) → fold (λ all w. all && is_zero w) true ws ≡ true
zero_fold [] z = refl
zero_fold (w ∷ ws) z = rw (eq-eqb w 0 (z 0 (omega arith))) (zero_fold ws (λ i l. z (suc i) (omega arith)))

-- So it does with the last 16 words.
pub block_fold : (ws : List ℕ) (r : Bool) → 16 ≤ length ws → r ≡ fold (λ all w. all && is_zero w) true (take (length ws - (length ws - 16)) (drop (length ws - 16) ws)) → Zeros ws r
block_fold ws r h e =
    record {
      all = λ t i a b. let k : length ws - 16 + (i - (length ws - 16)) ≡ i = omega arith in
          rw k at (sym (get_or-drop (length ws - 16) ws (i - (length ws - 16)) 0) ∙ (fold_zero true part (sym f ∙ t)).1 (i - (length ws - 16)) (omega (arith, long)));
      only = λ z. f ∙ zero_fold part (λ i l. get_or-drop (length ws - 16) ws i 0 ∙ z (length ws - 16 + i) (omega arith) (omega (arith, long)));
    }
  where
    part : List ℕ
    part = drop (length ws - 16) ws

    long : length part ≡ 16
    long = omega (arith, length-drop (length ws - 16) ws)

    f : r ≡ fold (λ all w. all && is_zero w) true part
    f = rw (take_all (length ws - (length ws - 16)) part (omega (arith, long))) at e

-- ---- a stretch
most : (es : List ℕ) (i : ℕ) → before_of es i ≤ i
unfolding before_of
most es i = omega arith

module _ (es : List ℕ) (last before at : ℕ) (w : last < length es) (e : before ≡ before_of es last) (m : before ≡ last) (y : ZerosFrom (take (last - 0) es) at) where
  z : ZerosFrom (take last es) at
  z = let k : last - 0 ≡ last = omega arith in rw k at y

  part : length (take last es) ≡ last
  part = simp length-take (omega arith)

  zeros : (i : ℕ) → at ≤ i → i < last → get_or es i 0 ≡ 0
  zeros i a b = sym (get_or-take last es i 0 b) ∙ z.zero i a (omega (arith, part))

  pub joined_whole : at ≡ 0 → Joined es last 0
  joined_whole n =
      record {
        low = omega arith;
        here = λ l. sym e ∙ m;
        zero = λ i a b. zeros i (omega arith) b;
        alone = λ l r. absurd (omega arith);
        other = λ l r. absurd (omega arith);
      }

  pub joined_at : (at ≡ 0 → ⊥) → Joined es last (at - 1)
  joined_at n =
      record {
        low = omega (arith, part, z.within);
        here = λ l. sym e ∙ m;
        zero = λ i a b. zeros i (omega arith) b;
        alone = λ l r. absurd (omega (arith, part, z.within, n));
        other = λ l r k. z.other (omega (arith, n)) (get_or-take last es (at - 1) 0 r ∙ k);
      }

module _ (xs es : List ℕ) (h : Chained xs es) (end to : ℕ) (w : end ≤ length xs) (l : Last (Free xs) end to) where
  module _ (n : to ≡ 0 → ⊥) (from : ℕ) (j : Joined es (to - 1) from) where
    zeroed : (i : ℕ) → get_or es i 0 ≡ 0 → before_of es i ≡ i
    unfolding before_of
    zeroed i z = let e : get_or es i 0 / 65536 ≡ 0 = omega arith in rw e (omega arith)

    back : (i : ℕ) → from < i → i ≤ to - 1 → before_of es i ≡ i
    back i a b = go (ℕ_discrete i (to - 1))
      where
        go : Dec (i ≡ to - 1) → before_of es i ≡ i
        go (yes e) = rw e (j.here (omega arith))
        go (no d) = zeroed i (j.zero i a (omega (arith, d)))

    -- d words before the last one.
    joined : (d : ℕ) → from + d ≤ to - 1 → Free xs (to - 1 - d)
    joined zero a = let e : to - 1 - 0 ≡ to - 1 = omega arith in rw e (l.stops (omega (arith, n)))
    joined (suc d) a =
        let i = to - 1 - d in
        let e : before_of es i ≡ i = back i (omega arith) (omega arith) in
        let k : before_of es i - 1 ≡ to - 1 - suc d = omega arith in
        rw k at (h.before i (omega (arith, l.within)) (joined d (omega arith)) (omega arith))

    free : (k : ℕ) → from ≤ k → k < to → Free xs k
    free k a b =
        let e : to - 1 - (to - 1 - k) ≡ k = omega arith in
        rw e at (joined (to - 1 - k) (omega arith))

    -- The first word's entry is not 0, and the word after it is free: so it does not have its neighbour for the previous one.
    parted : 0 < from → from < to - 1 → before_of es from < from
    unfolding before_of next_of
    parted z m =
        let close : from + 1 < next_of es from → ⊥ = λ p. h.passed from (from + 1) (omega (arith, l.within)) (omega arith) p (free (from + 1) (omega arith) (omega arith)) in
        let other : get_or es from 0 ≡ 0 → ⊥ = j.other z m in
        omega (arith, close, other)

    edge : 0 < from → Free xs (from - 1) → ⊥
    edge z f = go (ℕ_discrete from (to - 1))
      where
        passed : before_of es from < from → ⊥
        passed b = h.passed_back from (from - 1) (omega (arith, l.within, j.low, n)) (omega arith) (omega arith) f

        alone : from ≡ to - 1 → before_of es from ≡ from → ⊥
        alone e k = j.alone z e (rw e at k)

        go : Dec (from ≡ to - 1) → ⊥
        go (yes e) = passed (omega (arith, alone e, most es from))
        go (no d) = passed (parted z (omega (arith, j.low, d)))

    pub stretch_joined : StretchBefore xs end from to
    stretch_joined =
        record {
          ordered = omega (arith, j.low);
          within = l.within;
          some = λ k. omega (arith, j.low);
          free = free;
          past = l.none;
          edge = edge;
        }
