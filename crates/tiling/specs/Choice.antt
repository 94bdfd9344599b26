-- Which of two sequences is the pattern; the other is the text.
use Rattle.std.specs.Prelude.{ℕ, ◌⊎◌, ◌≡◌, Bool, true, false, not, List, [], ◌∷◌, eqb, ltb, length}

-- Whether the first of two lists of one length is chosen by their words: it has "the smaller word at the first place where they differ, words
-- taken as unsigned numbers", or no place differs. Words differ when they are not equal, whether they match or not, so a no-call is
-- greater than every call. Of lists that are not of one length this is not asked.
unfoldable pub first_by_words : List ℕ → List ℕ → Bool
first_by_words [] ys = true
first_by_words (x ∷ xs) [] = true
first_by_words (x ∷ xs) (y ∷ ys) = elim (eqb x y) [ true ↦ first_by_words xs ys | false ↦ ltb x y ]

-- "The pattern is the shorter strand, the text the longer" (01); "of two strands of equal length the pattern is the one with the smaller word
-- at the first place where they differ .. If no place differs the first strand is the pattern." (02, U2)
unfoldable pub first_is_pattern : List ℕ → List ℕ → Bool
first_is_pattern first second =
    elim (eqb (length first) (length second))
    [ true ↦ first_by_words first second | false ↦ ltb (length first) (length second) ]

-- The pattern and the text of two sequences.
unfoldable pub pattern_of : List ℕ → List ℕ → List ℕ
pattern_of first second = elim (first_is_pattern first second) [ true ↦ first | false ↦ second ]

unfoldable pub text_of : List ℕ → List ℕ → List ℕ
text_of first second = elim (first_is_pattern first second) [ true ↦ second | false ↦ first ]

-- A choice between two sequences that falls on the same one whichever is handed in first; of equal ones there is nothing to choose.
abbrev pub EitherWay : (List ℕ → List ℕ → Bool) → List ℕ → List ℕ → Type 0
EitherWay firstChosen xs ys = (firstChosen ys xs ≡ not (firstChosen xs ys)) ⊎ (xs ≡ ys)
