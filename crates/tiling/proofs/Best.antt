-- The best tile of a state in 01's words: no run is longer, each run at a smaller p is shorter, and each run at the same p and a smaller
-- t is shorter. Just one tile is so, so an engine that shows these facts of a tile has shown that it is the best.
-- Assumes nothing.
use Prim.Native.Nat.{ℕ, ◌≤◌, ◌<◌}
use native.Mathlib.Decide.{dec_lt}
use native.Mathlib.Omega.{arith}
use mathlib.Core.Path.{◌≡◌, refl, sym}
use lib.ListN.{length, drop, drop_of_length-le}
use Rattle.tiling.specs.Run.{leading}
use Rattle.tiling.specs.Tiling.{Tile, State, run_at, best_text_by, best_text, row_length_by, row_length, best_by, best, Best}
use Rattle.tiling.proofs.Leading.{leading_nil}
use Rattle.tiling.proofs.Peak.{peak_is}

-- There is no run past an end.
pub past_pattern : (s : State) (p t : ℕ) → length s.pattern ≤ p → run_at s p t ≡ 0
unfolding leading
past_pattern s p t h = rw (drop_of_length-le s.pattern h) refl

pub past_text : (s : State) (p t : ℕ) → length s.text ≤ t → run_at s p t ≡ 0
past_text s p t h = rw (drop_of_length-le s.text h) (leading_nil _ (drop p s.pattern))

-- The longest run of a row, and the first of them.
pub row_most : (s : State) (p t : ℕ) → run_at s p t ≤ row_length s p
unfolding row_length_by best_text_by
row_most s p t = go (dec_lt t (length s.text))
  where
    go : Dec (t < length s.text) → run_at s p t ≤ row_length s p
    go (yes h) = (peak_is (run_at s p) (length s.text)).most t h
    go (no h) = omega (arith, past_text s p t (omega (arith, h)))

pub row_first : (s : State) (p t : ℕ) → t < best_text s p → run_at s p t < row_length s p
unfolding row_length_by best_text_by
row_first s p t h = (peak_is (run_at s p) (length s.text)).first t h

pub best_is : (s : State) → Best s (best s)
unfolding best_by row_length_by
best_is s =
    record {
      long = long;
      most = λ p t. most p t (dec_lt p (length s.pattern));
      above = λ p t h. omega (arith, row_most s p t, (peak_is (row_length s) (length s.pattern)).first p h);
      before = λ t h. row_first s (best s).p t h;
    }
  where
    long : (best s).len ≡ run_at s (best s).p (best s).t
    long = refl

    most : (p t : ℕ) → Dec (p < length s.pattern) → run_at s p t ≤ (best s).len
    most p t (yes h) = omega (arith, row_most s p t, (peak_is (row_length s) (length s.pattern)).most p h)
    most p t (no h) = omega (arith, past_pattern s p t (omega (arith, h)))

-- Two tiles with equal starts and lengths are one.
pub same_tile : (j k : Tile) → j.p ≡ k.p → j.t ≡ k.t → j.len ≡ k.len → j ≡ k
same_tile j k p t l = λ i. record { p = p i; t = t i; len = l i }

-- These facts fix the tile: of two that have them, neither is longer, starts earlier on the pattern, or earlier on the text.
len_least : (s : State) (j k : Tile) → Best s j → Best s k → k.len ≤ j.len
len_least s j k a b = omega (arith, b.long, a.most k.p k.t)

p_least : (s : State) (j k : Tile) → Best s j → Best s k → j.p ≤ k.p
p_least s j k a b = go (dec_lt k.p j.p)
  where
    go : Dec (k.p < j.p) → j.p ≤ k.p
    go (yes h) = absurd (omega (arith, a.above k.p k.t h, b.long, len_least s k j b a))
    go (no h) = omega (arith, h)

t_least : (s : State) (j k : Tile) → Best s j → Best s k → j.p ≡ k.p → j.t ≤ k.t
t_least s j k a b e = go (dec_lt k.t j.t)
  where
    go : Dec (k.t < j.t) → j.t ≤ k.t
    go (yes h) =
        let l : run_at s k.p k.t < j.len = rw (← e) (a.before k.t h) in
        absurd (omega (arith, l, b.long, len_least s k j b a))
    go (no h) = omega (arith, h)

pub best_only : (s : State) (j k : Tile) → Best s j → Best s k → j ≡ k
best_only s j k a b =
    let p : j.p ≡ k.p = omega (arith, p_least s j k a b, p_least s k j b a) in
    same_tile j k p
    (omega (arith, t_least s j k a b p, t_least s k j b a (sym p)))
    (omega (arith, len_least s j k a b, len_least s k j b a))
