-- Marking a stretch of words: what it leaves of the parts of a list, and that it is zeros in the place of the stretch.
-- Assumes nothing.
use Prim.Native.Nat.{ℕ, zero, suc, ◌+◌, ◌-◌, ◌≤◌}
use native.Mathlib.Nat.{not-suc-le-zero, le_of_suc-le-suc}
use native.Mathlib.Omega.{arith}
use mathlib.Core.Path.{◌≡◌, refl, ap}
use mathlib.Core.List.{List, [], ◌∷◌, ◌++◌}
use lib.ListN.{length, take, drop, replicate, length-take, length-drop}
use lib.Seq.{take-nil, drop-nil}
use Rattle.tiling.specs.Run.{mark}

-- No word marked.
pub mark_none : (i : ℕ) (xs : List ℕ) → mark i 0 xs ≡ xs
unfolding mark
mark_none i [] = refl
mark_none (suc i) (x ∷ xs) = ap (λ ys. x ∷ ys) (mark_none i xs)
mark_none zero (x ∷ xs) = refl

-- Every word marked.
pub mark_all : (xs : List ℕ) → mark 0 (length xs) xs ≡ replicate (length xs) 0
unfolding mark
mark_all [] = refl
mark_all (x ∷ xs) = ap (λ ys. 0 ∷ ys) (mark_all xs)

-- ---- marking and the parts of a list
-- A stretch within the front, past it, before the tail, and within the tail.
pub take_mark_in : (k i n : ℕ) (xs : List ℕ) → i + n ≤ k → take k (mark i n xs) ≡ mark i n (take k xs)
unfolding mark
take_mark_in k i n [] h = rw (take-nil {A = ℕ} k) refl
take_mark_in zero i zero (x ∷ xs) h = refl
take_mark_in zero i (suc n) (x ∷ xs) h = absurd (omega arith)
take_mark_in (suc k) (suc i) n (x ∷ xs) h = ap (λ ys. x ∷ ys) (take_mark_in k i n xs (omega arith))
take_mark_in (suc k) zero zero (x ∷ xs) h = refl
take_mark_in (suc k) zero (suc n) (x ∷ xs) h = ap (λ ys. 0 ∷ ys) (take_mark_in k zero n xs (omega arith))

pub take_mark_out : (k i n : ℕ) (xs : List ℕ) → k ≤ i → take k (mark i n xs) ≡ take k xs
unfolding mark
take_mark_out k i n [] h = refl
take_mark_out zero i n (x ∷ xs) h = refl
take_mark_out (suc k) zero n (x ∷ xs) h = absurd (not-suc-le-zero h)
take_mark_out (suc k) (suc i) n (x ∷ xs) h = ap (λ ys. x ∷ ys) (take_mark_out k i n xs (le_of_suc-le-suc h))

pub drop_mark_out : (k i n : ℕ) (xs : List ℕ) → i + n ≤ k → drop k (mark i n xs) ≡ drop k xs
unfolding mark
drop_mark_out k i n [] h = refl
drop_mark_out zero i zero (x ∷ xs) h = mark_none i (x ∷ xs)
drop_mark_out zero i (suc n) (x ∷ xs) h = absurd (omega arith)
drop_mark_out (suc k) (suc i) n (x ∷ xs) h = drop_mark_out k i n xs (omega arith)
drop_mark_out (suc k) zero zero (x ∷ xs) h = refl
drop_mark_out (suc k) zero (suc n) (x ∷ xs) h = drop_mark_out k zero n xs (omega arith)

pub drop_mark_in : (k i n : ℕ) (xs : List ℕ) → drop k (mark (k + i) n xs) ≡ mark i n (drop k xs)
unfolding mark
drop_mark_in k i n [] = rw (drop-nil {A = ℕ} k) refl
drop_mark_in zero i n (x ∷ xs) = let e : 0 + i ≡ i = omega arith in rw e refl
drop_mark_in (suc k) i n (x ∷ xs) = let e : suc k + i ≡ suc (k + i) = omega arith in rw e (drop_mark_in k i n xs)

-- ---- the part of mark_words: zeros in its place are marks
zeros_here : (n : ℕ) (xs : List ℕ) → n ≤ length xs → replicate n 0 ++ drop n xs ≡ mark 0 n xs
unfolding mark
zeros_here zero [] h = refl
zeros_here zero (x ∷ xs) h = refl
zeros_here (suc n) [] h = absurd (not-suc-le-zero h)
zeros_here (suc n) (x ∷ xs) h = ap (λ ys. 0 ∷ ys) (zeros_here n xs (le_of_suc-le-suc h))

zeros_at : (at n : ℕ) (xs : List ℕ) → at + n ≤ length xs → take at xs ++ (replicate n 0 ++ drop n (drop at xs)) ≡ mark at n xs
unfolding mark
zeros_at zero n xs h = zeros_here n xs (omega arith)
zeros_at (suc at) n [] h = absurd (omega arith)
zeros_at (suc at) n (x ∷ xs) h = ap (λ ys. x ∷ ys) (zeros_at at n xs (omega arith))

pub mark_put : (at n : ℕ) (xs ys : List ℕ) → at + n ≤ length xs → ys ≡ replicate (length (take (at + n - at) (drop at xs))) 0 → take at xs ++ (ys ++ drop (at + n - at) (drop at xs)) ≡ mark at n xs
mark_put at n xs ys h e =
    let k : at + n - at ≡ n = omega arith in
    let l : length (take n (drop at xs)) ≡ n = omega (arith, length-take n (drop at xs), length-drop at xs) in
    rw (e, k, l) (zeros_at at n xs h)
