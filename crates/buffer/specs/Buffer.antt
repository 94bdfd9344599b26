-- What a lent buffer holds after it was written from its start.
use Rattle.std.specs.Prelude.{ℕ, zero, suc, Bool, true, false, ◌&&◌, List, [], ◌∷◌, ◌++◌, eqb, length, drop}

-- The words at the start of the buffer, and beyond them what stood there. "Buffer words beyond those written keep their values."
abbrev pub onto : List ℕ → List ℕ → List ℕ
onto words buffer = words ++ drop (length words) buffer

-- f 0, f 1, .. f (n - 1).
unfoldable pub tabulate : (ℕ → ℕ) → ℕ → List ℕ
tabulate f zero = []
tabulate f (suc n) = tabulate f n ++ (f n ∷ [])

-- The same words in the same order, as a test that known values are computed by.
unfoldable pub same : List ℕ → List ℕ → Bool
same [] [] = true
same [] (y ∷ ys) = false
same (x ∷ xs) [] = false
same (x ∷ xs) (y ∷ ys) = eqb x y && same xs ys
