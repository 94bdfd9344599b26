-- How many words of a list pass a test.
use Rattle.std.specs.Prelude.{ℕ, ◌+◌, Bool, true, false, List, [], ◌∷◌}

abbrev pub one : Bool → ℕ
one true = 1
one false = 0

unfoldable pub tally : (ℕ → Bool) → List ℕ → ℕ
tally test [] = 0
tally test (x ∷ xs) = one (test x) + tally test xs
