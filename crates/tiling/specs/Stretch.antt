-- The free stretches of a sequence. "A word is free when no listed tile covers it on its strand." (01) The words that tiles cover are marked
-- with 0, so any other word is free: a no-call is, and does not end a stretch.
use Rattle.std.specs.Prelude.{ℕ, zero, suc, ◌+◌, true, false, List, [], ◌∷◌, leb}

-- The lengths of the maximal stretches of free words, in order, where so many free words stand right before the list. Between two marked
-- words side by side is a stretch of no words.
unfoldable pub stretches_after : ℕ → List ℕ → List ℕ
stretches_after before [] = before ∷ []
stretches_after before (zero ∷ ws) = before ∷ stretches_after 0 ws
stretches_after before (suc w ∷ ws) = stretches_after (suc before) ws

abbrev pub stretches : List ℕ → List ℕ
stretches = stretches_after 0

-- A length that is at least the minimum; a shorter one counts 0.
unfoldable pub if_long : ℕ → ℕ → ℕ
if_long minimum len = elim (leb minimum len) [ true ↦ len | false ↦ 0 ]

-- The sum of the lengths that are at least the minimum.
unfoldable pub sum_long : ℕ → List ℕ → ℕ
sum_long minimum [] = 0
sum_long minimum (len ∷ lens) = if_long minimum len + sum_long minimum lens

-- How many words further tiles could take at the most: "the pattern's free stretches of at least the minimum length" (02, U5).
abbrev pub fillable : ℕ → List ℕ → ℕ
fillable minimum pattern = sum_long minimum (stretches pattern)

-- How many free words a list begins with.
unfoldable pub free_first : List ℕ → ℕ
free_first [] = 0
free_first (zero ∷ ws) = 0
free_first (suc w ∷ ws) = suc (free_first ws)
