-- Pairs of words that pass a test one after another, as the words of a run do: they are counted one by one, or block by block. A run, and
-- the positions before two words side by side, are counts of this kind by two tests.
-- Assumes nothing.
use Prim.Native.Nat.{ℕ, zero, suc, ◌+◌, ◌-◌, ◌≤◌, ◌<◌, min}
use native.Mathlib.Omega.{arith}
use mathlib.Core.Path.{◌≡◌, refl, sym, ◌∙◌}
use mathlib.Core.Bool.{Bool, true, false, ◌&&◌, and-true, and-false}
use mathlib.Core.List.{List, [], ◌∷◌}
use borrow.Author.Tests.{le-leb, lt-leb, leb-true}
use lib.Dec.{leb}
use lib.ListN.{length, take, drop}
use Rattle.std.specs.List.{fold, zip, prefix_len, take_while}
use Rattle.std.proofs.lemmas.List.Folds.{length-prefix_len}
use Rattle.symbol.proofs.Word.{same}
use Rattle.tiling.specs.Run.{leading}
use Rattle.tiling.proofs.Leading.{leading_cons, leading_none, leading_within, leading_after}
use Rattle.measure.specs.Block.{block, whole_blocks}
use Rattle.measure.proofs.Blocks.{Blocks, blocks_end}
use Rattle.buffer.proofs.Buffer.{tail_is}

module _ (test : ℕ → ℕ → Bool) where
  -- A pair passes.
  abbrev pub pair_passes : ℕ × ℕ → Bool
  pair_passes p = test p.0 p.1

  -- In a block: a fold over its first pairs tells whether each of them passes.
  fold_pairs : (n : ℕ) (a : Bool) (xs ys : List ℕ) → n ≤ length xs → n ≤ length ys → fold (λ all p. all && pair_passes p) a (zip (take n xs) (take n ys)) ≡ (a && leb n (leading test xs ys))
  fold_pairs zero a xs ys h k = rw (le-leb 0 (leading test xs ys) (omega arith)) (sym (and-true a))
  fold_pairs (suc n) a [] ys h k = absurd (omega arith)
  fold_pairs (suc n) a (x ∷ xs) [] h k = absurd (omega arith)
  fold_pairs (suc n) a (x ∷ xs) (y ∷ ys) h k = fold_pairs n (a && test x y) xs ys (omega arith) (omega arith) ∙ go (test x y) refl
    where
      go : (b : Bool) → test x y ≡ b → ((a && test x y) && leb n (leading test xs ys)) ≡ (a && leb (suc n) (leading test (x ∷ xs) (y ∷ ys)))
      go true e =
          let l = leading_cons test x y xs ys e in
          let m : leb n (leading test xs ys) ≡ leb (suc n) (leading test (x ∷ xs) (y ∷ ys)) =
          same _ _ (λ t. le-leb _ _ (omega (arith, l, leb-true _ _ t))) (λ t. le-leb _ _ (omega (arith, l, leb-true _ _ t))) in
          rw (e, and-true a, m) refl
      go false e =
          let m : leb (suc n) (leading test (x ∷ xs) (y ∷ ys)) ≡ false = lt-leb _ _ (omega (arith, leading_none test x y xs ys e)) in
          rw (e, m, and-false a) refl

  -- Pair by pair: those that a list of pairs begins with.
  prefix_pairs : (xs ys : List ℕ) → prefix_len pair_passes (zip xs ys) ≡ leading test xs ys
  unfolding leading
  prefix_pairs [] ys = refl
  prefix_pairs (x ∷ xs) [] = refl
  prefix_pairs (x ∷ xs) (y ∷ ys) = go (prefix_pairs xs ys) (test x y) refl
    where
      go : prefix_len pair_passes (zip xs ys) ≡ leading test xs ys → (b : Bool) → test x y ≡ b → prefix_len pair_passes (zip (x ∷ xs) (y ∷ ys)) ≡ leading test (x ∷ xs) (y ∷ ys)
      go k true e = rw (leading_cons test x y xs ys e, e, k) (omega arith)
      go k false e = rw (leading_none test x y xs ys e, e) refl

  -- No more pairs are looked at than both lists have, and those after the first n are counted as the code counts them.
  leading_front : (m : ℕ) (xs ys : List ℕ) → leading test (take m xs) (take m ys) ≡ min m (leading test xs ys)
  unfolding leading
  leading_front zero xs ys = omega arith
  leading_front (suc m) [] ys = omega arith
  leading_front (suc m) (x ∷ xs) [] = omega arith
  leading_front (suc m) (x ∷ xs) (y ∷ ys) = go (leading_front m xs ys) (test x y) refl
    where
      go : leading test (take m xs) (take m ys) ≡ min m (leading test xs ys) → (b : Bool) → test x y ≡ b → leading test (x ∷ take m xs) (y ∷ take m ys) ≡ min (suc m) (leading test (x ∷ xs) (y ∷ ys))
      go k true e = omega (arith, k, leading_cons test x y xs ys e, leading_cons test x y (take m xs) (take m ys) e)
      go k false e = omega (arith, leading_none test x y xs ys e, leading_none test x y (take m xs) (take m ys) e)

  pub pairs_count : (xs ys : List ℕ) (n end r : ℕ) → end ≡ min (length xs) (length ys) → n ≤ leading test xs ys → r ≡ length (take_while pair_passes (zip (take (end - n) (drop n xs)) (take (end - n) (drop n ys)))) → n + r ≡ leading test xs ys
  pairs_count xs ys n end r k h e =
      let f : r ≡ min (end - n) (leading test (drop n xs) (drop n ys)) =
      e
      ∙ (
      length-prefix_len pair_passes (zip (take (end - n) (drop n xs)) (take (end - n) (drop n ys)))
      ∙ (prefix_pairs (take (end - n) (drop n xs)) (take (end - n) (drop n ys)) ∙ leading_front (end - n) (drop n xs) (drop n ys))
      ) in
      omega (arith, f, k, leading_after test n xs ys h, leading_within test xs ys)

  -- Whether a block passes, as the code folds it.
  pub block_fold : (xs ys : List ℕ) (r : Bool) → block ≤ length xs → block ≤ length ys → r ≡ fold (λ all p. all && pair_passes p) true (zip (take block xs) (take block ys)) → r ≡ leb block (leading test xs ys)
  block_fold xs ys r h k e = e ∙ fold_pairs block true xs ys h k

module _ (test : ℕ → ℕ → Bool) (xs ys : List ℕ) (n : ℕ) where
  -- Too few words are left for another block.
  pub short_first : Blocks (leading test xs ys) n → length xs - n < block → n ≡ whole_blocks (leading test xs ys)
  short_first b h = blocks_end (leading test xs ys) n (length xs) b (omega (arith, leading_within test xs ys)) h

  pub short_second : Blocks (leading test xs ys) n → length ys - n < block → n ≡ whole_blocks (leading test xs ys)
  short_second b h = blocks_end (leading test xs ys) n (length ys) b (omega (arith, leading_within test xs ys)) h

  pub pairs_after : n ≤ leading test xs ys → leading test xs ys ≡ n + leading test (take (length xs - n) (drop n xs)) (take (length ys - n) (drop n ys))
  pairs_after h = rw (tail_is n xs, tail_is n ys) (leading_after test n xs ys h)
