-- Which of two sequences is the pattern. It is no longer than the other; and of two sequences that are not equal the same one is chosen
-- whichever of them is handed in first.
-- Assumes nothing.
use Prim.Native.Nat.{ℕ, ◌≤◌, ◌<◌}
use native.Mathlib.Decide.{dec_lt}
use native.Mathlib.Omega.{arith}
use mathlib.Core.Path.{◌≡◌, refl, sym, ◌∙◌, ap}
use mathlib.Core.Bool.{Bool, true, false, not}
use mathlib.Core.List.{List, [], ◌∷◌}
use mathlib.Core.Logic.{inl, inr}
use borrow.Author.Tests.{eq-eqb, ne_eqb, lt-ltb, le-ltb, eqb-true, eqb-false, ltb-true}
use lib.Dec.{eqb, ltb}
use lib.ListN.{length}
use Rattle.tiling.specs.Choice.{first_by_words, first_is_pattern, EitherWay}

-- ---- by the words
pub words_equal : (x y : ℕ) (xs ys : List ℕ) → x ≡ y → first_by_words (x ∷ xs) (y ∷ ys) ≡ first_by_words xs ys
unfolding first_by_words
words_equal x y xs ys e = rw (first_by_words, eq-eqb x y e) refl

pub words_differ : (x y : ℕ) (xs ys : List ℕ) → (x ≡ y → ⊥) → first_by_words (x ∷ xs) (y ∷ ys) ≡ ltb x y
unfolding first_by_words
words_differ x y xs ys d = rw (first_by_words, ne_eqb x y d) refl

-- ---- by the lengths
pub by_words : (first second : List ℕ) → length first ≡ length second → first_is_pattern first second ≡ first_by_words first second
unfolding first_is_pattern
by_words first second e = rw (first_is_pattern, eq-eqb (length first) (length second) e) refl

pub by_length : (first second : List ℕ) → (length first ≡ length second → ⊥) → first_is_pattern first second ≡ ltb (length first) (length second)
unfolding first_is_pattern
by_length first second d = rw (first_is_pattern, ne_eqb (length first) (length second) d) refl

-- The first is the pattern only where it is no longer.
pub first_shorter : (first second : List ℕ) → first_is_pattern first second ≡ true → length first ≤ length second
first_shorter first second e = go (eqb (length first) (length second)) refl
  where
    go : (b : Bool) → eqb (length first) (length second) ≡ b → length first ≤ length second
    go true k = omega (arith, eqb-true (length first) (length second) k)
    go false k = omega (arith, ltb-true (length first) (length second) (sym (by_length first second (eqb-false _ _ k)) ∙ e))

-- ---- the sequences exchanged
-- Of two numbers that differ one is smaller.
differ_turn : (x y : ℕ) → (x ≡ y → ⊥) → ltb y x ≡ not (ltb x y)
differ_turn x y d = go (dec_lt x y)
  where
    go : Dec (x < y) → ltb y x ≡ not (ltb x y)
    go (yes h) = let l : x ≤ y = omega arith in rw (lt-ltb x y h, le-ltb y x l) refl
    go (no h) =
        let l : y ≤ x = omega (arith, h) in
        let m : y < x = omega (arith, h, d) in
        rw (le-ltb x y l, lt-ltb y x m) refl

words_turn : (xs ys : List ℕ) → length xs ≡ length ys → EitherWay first_by_words xs ys
words_turn [] [] e = inr refl
words_turn [] (y ∷ ys) e = absurd (omega (arith, e))
words_turn (x ∷ xs) [] e = absurd (omega (arith, e))
words_turn (x ∷ xs) (y ∷ ys) e = go (eqb x y) refl (words_turn xs ys (omega (arith, e)))
  where
    go : (b : Bool) → eqb x y ≡ b → EitherWay first_by_words xs ys → EitherWay first_by_words (x ∷ xs) (y ∷ ys)
    go true k (inl h) = let s : x ≡ y = eqb-true x y k in inl (rw (words_equal x y xs ys s, words_equal y x ys xs (sym s)) h)
    go true k (inr h) = let s : x ≡ y = eqb-true x y k in inr (ap (λ z. z ∷ xs) s ∙ ap (λ zs. y ∷ zs) h)
    go false k h =
        let d = eqb-false x y k in
        inl (rw (words_differ x y xs ys d, words_differ y x ys xs (λ s. d (sym s))) (differ_turn x y d))

pub pattern_turn : (first second : List ℕ) → EitherWay first_is_pattern first second
pattern_turn first second = go (eqb (length first) (length second)) refl
  where
    same : length first ≡ length second → EitherWay first_by_words first second → EitherWay first_is_pattern first second
    same e (inl h) = inl (rw (by_words first second e, by_words second first (sym e)) h)
    same e (inr h) = inr h

    go : (b : Bool) → eqb (length first) (length second) ≡ b → EitherWay first_is_pattern first second
    go true k = let e = eqb-true (length first) (length second) k in same e (words_turn first second e)
    go false k =
        let d = eqb-false (length first) (length second) k in
        inl (rw (by_length first second d, by_length second first (λ s. d (sym s))) (differ_turn (length first) (length second) d))

-- So the second is the pattern only where it is no longer, too.
pub second_shorter : (first second : List ℕ) → first_is_pattern first second ≡ false → length second ≤ length first
second_shorter first second e = go (pattern_turn first second)
  where
    go : EitherWay first_is_pattern first second → length second ≤ length first
    go (inl t) = first_shorter second first (t ∙ ap not e)
    go (inr s) = omega (arith, ap length s)
