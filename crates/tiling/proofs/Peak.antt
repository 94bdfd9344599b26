-- The first number at which f is greatest: no number below n has a greater value, and each one before it has a smaller.
-- Assumes nothing.
use Prim.Native.Nat.{ℕ, zero, suc, ◌≤◌, ◌<◌}
use native.Mathlib.Nat.{not-suc-le-zero}
use native.Mathlib.Decide.{dec_lt}
use native.Mathlib.Omega.{arith}
use mathlib.Core.Path.{◌≡◌, refl}
use borrow.Author.Tests.{lt-ltb, le-ltb}
use Rattle.tiling.specs.Greedy.{peak}

module _ (f : ℕ → ℕ) where
  peak_moves : (n : ℕ) → f (peak f n) < f n → peak f (suc n) ≡ n
  unfolding peak
  peak_moves n h = rw (peak, lt-ltb (f (peak f n)) (f n) h) refl

  peak_stays : (n : ℕ) → f n ≤ f (peak f n) → peak f (suc n) ≡ peak f n
  unfolding peak
  peak_stays n h = rw (peak, le-ltb (f (peak f n)) (f n) h) refl

  pub record Peak (n k : ℕ) : Type 0 where
    pub most : (i : ℕ) → i < n → f i ≤ f k
    pub first : (i : ℕ) → i < k → f i < f k
    pub within : k ≤ n

  peak_none : Peak 0 (peak f 0)
  unfolding peak
  peak_none = record { most = λ i h. absurd (not-suc-le-zero h); first = λ i h. absurd (not-suc-le-zero h); within = omega arith }

  peak_more : (n k : ℕ) → Peak n k → f k < f n → Peak (suc n) n
  peak_more n k r h =
      record {
        most = λ i l. go i (dec_lt i n) l;
        first = λ i l. omega (arith, r.most i l);
        within = omega arith;
      }
    where
      go : (i : ℕ) → Dec (i < n) → i < suc n → f i ≤ f n
      go i (yes l) u = omega (arith, r.most i l)
      go i (no l) u = let e : i ≡ n = omega (arith, l) in rw e (omega arith)

  peak_same : (n k : ℕ) → Peak n k → f n ≤ f k → Peak (suc n) k
  peak_same n k r h = record { most = λ i l. go i (dec_lt i n) l; first = r.first; within = omega (arith, r.within) }
    where
      go : (i : ℕ) → Dec (i < n) → i < suc n → f i ≤ f k
      go i (yes l) u = r.most i l
      go i (no l) u = let e : i ≡ n = omega (arith, l) in rw e h

  pub peak_is : (n : ℕ) → Peak n (peak f n)
  peak_is zero = peak_none
  peak_is (suc n) = go (peak_is n) (dec_lt (f (peak f n)) (f n))
    where
      go : Peak n (peak f n) → Dec (f (peak f n) < f n) → Peak (suc n) (peak f (suc n))
      go r (yes h) = rw (peak_moves n h) (peak_more n (peak f n) r h)
      go r (no h) = let l : f n ≤ f (peak f n) = omega (arith, h) in rw (peak_stays n l) (peak_same n (peak f n) r l)
