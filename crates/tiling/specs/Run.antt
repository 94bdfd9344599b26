-- Matching runs, and marked words.
use Rattle.std.specs.Prelude.{ℕ, zero, suc, Bool, true, false, List, [], ◌∷◌}
use Rattle.symbol.specs.Word.{equal_calls, matches}

-- How many pairs of words, one of each list, pass a test one after another from the start of two lists.
unfoldable pub leading : (ℕ → ℕ → Bool) → List ℕ → List ℕ → ℕ
leading test [] ys = 0
leading test (x ∷ xs) [] = 0
leading test (x ∷ xs) (y ∷ ys) = elim (test x y) [ true ↦ suc (leading test xs ys) | false ↦ 0 ]

-- How many words match one by one from the start of two lists.
-- "The run at (p, t) is the longest stretch of words matching one by one from p and from t, stopping at the end of a strand,
-- at a pair that doesn't match, or at a marked word on either side. The run at a place is measured on the parts of the two
-- strands that begin there."
abbrev pub run : List ℕ → List ℕ → ℕ
run = leading matches

-- The same of words as they stand, by 01's match alone: what words that are replaced already are compared by.
abbrev pub equal_run : List ℕ → List ℕ → ℕ
equal_run = leading equal_calls

-- The list with n words marked from position i on. A marked word is written as 0, which is no call: a run stops at it, and no
-- sound sequence holds it, so that all words start unmarked.
unfoldable pub mark : ℕ → ℕ → List ℕ → List ℕ
mark i n [] = []
mark (suc i) n (x ∷ xs) = x ∷ mark i n xs
mark zero zero (x ∷ xs) = x ∷ xs
mark zero (suc n) (x ∷ xs) = 0 ∷ mark zero n xs
