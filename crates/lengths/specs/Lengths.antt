-- Which search lengths the passes have. No reader of the engines' contracts needs these: any lengths would do.
use Rattle.std.specs.Prelude.{ℕ, zero, suc, ◌+◌, ◌-◌, ◌*◌, ◌/◌, ◌%◌, ◌<◌, min, max, ◌≡◌, Bool, true, false, not, ◌&&◌, ◌||◌, List, [], ◌∷◌, leb, ltb, eqb, length, take, drop, get_or}
use Rattle.symbol.specs.Word.{is_call}
use Rattle.tiling.specs.Tally.{one}
use Rattle.window.specs.Hash.{words_hash}
use Rattle.index.specs.Indexed.{place}
use Rattle.index.specs.Built.{some_of}

-- The i-th of the windows of s words that are taken, every step-th, has place k.
abbrev pub taken : List ℕ → ℕ → ℕ → ℕ → ℕ → ℕ → Bool
taken ws b s step k i = eqb (place (words_hash b (take s (drop (i * step) ws)))) k

-- How many are taken: 64 at the most.
abbrev pub samples : List ℕ → ℕ → ℕ → ℕ
samples ws s step = min ((length ws - s) / step) 63 + 1

-- One of them has it, from the i-th on.
abbrev pub some_taken : List ℕ → ℕ → ℕ → ℕ → ℕ → ℕ → Bool
some_taken ws b s step k i = some_of (taken ws b s step k) i (samples ws s step - i)

-- How many of the numbers below n pass a test.
unfoldable pub count_below : (ℕ → Bool) → ℕ → ℕ
count_below test zero = 0
count_below test (suc n) = count_below test n + one (test n)

-- The places of the windows that are taken are marked.
pub record Marked (ws : List ℕ) (b s step : ℕ) (marked : List ℕ) : Type 0 where
  pub entries : (k : ℕ) → k < 1024 → get_or marked k 0 ≡ one (some_taken ws b s step k 0)

-- How many of the first n are.
abbrev pub marks : List ℕ → ℕ → ℕ
marks marked n = count_below (λ k. not (eqb (get_or marked k 0) 0)) n

-- How many different places 64 windows of s words have, or as many as there are.
unfoldable pub different : List ℕ → ℕ → ℕ → ℕ
different ws b s = elim (ltb (length ws) s) [ true ↦ 0 | false ↦ count_below (λ k. some_taken ws b s (max 1 ((length ws - s) / 64)) k 0) 1024 ]

-- A pass at s words, before the one at the minimum, pays: s is at most 8, and so many windows differ that there are few steps in vain.
unfoldable pub worthwhile : List ℕ → ℕ → ℕ → Bool
worthwhile ws b s = leb s 8 && leb 52 (different ws b s)

-- The first of s, twice that, four times that, .. at which a pass pays, tried so many times; 0 where there is none.
unfoldable pub short_length : List ℕ → ℕ → ℕ → ℕ → ℕ
short_length ws b s zero = 0
short_length ws b s (suc n) = elim (worthwhile ws b s) [ true ↦ s | false ↦ short_length ws b (s * 2) n ]

-- A length from s on whose windows differ, tried so many times, doubled each time as long as more of them differ than did before. The first
-- length that was tried where no more of them do; a quarter of the next one where there are no tries left.
unfoldable pub climbed : List ℕ → ℕ → ℕ → ℕ → ℕ → ℕ → ℕ
climbed ws b first s few zero = max first (min (s / 4) 2048)
climbed ws b first s few (suc n) =
    elim (leb 44 (different ws b s))
    [ true ↦ s | false ↦ elim (leb (different ws b s) few) [ true ↦ first | false ↦ climbed ws b first (s * 2) (different ws b s) n ] ]

-- The first length that is tried: the one that was given, but at least 20, at most 64, and at least the minimum.
abbrev pub tried_first : ℕ → ℕ → ℕ
tried_first minimum given = max minimum (min (max given 20) 64)

-- A length to begin with where windows of the minimum length are too much alike: a short one, if one pays; else the minimum in a short
-- pattern, and in a longer one a length from the first that is tried on.
unfoldable pub longer_length : List ℕ → ℕ → ℕ → ℕ → ℕ → ℕ
longer_length ws b minimum given few =
    elim (ltb 0 (short_length ws b (2 * minimum) 3))
    [ true ↦ short_length ws b (2 * minimum) 3 | false ↦ elim (leb (length ws) 256) [ true ↦ minimum | false ↦ climbed ws b (tried_first minimum given) (tried_first minimum given) few 3 ] ]

-- One pass, at the minimum, is made without a look at the windows: the pattern is short, or the multiplier even, so that a hash tells only
-- of the last words of a window.
unfoldable pub at_once : ℕ → ℕ → ℕ → Bool
at_once n minimum b = (leb n 64 || (leb n 256 && ltb 2 minimum)) || eqb (b % 2) 0

-- So many windows of the minimum length must differ for one pass.
unfoldable pub enough : ℕ → ℕ
enough n = elim (leb n 256) [ true ↦ 12 | false ↦ 44 ]

-- The first search length: the minimum, unless windows so short are too much alike.
unfoldable pub first_length : List ℕ → ℕ → ℕ → ℕ → ℕ
first_length pattern b minimum given =
    elim (at_once (length pattern) minimum b)
    [ true ↦ minimum | false ↦ elim (leb (enough (length pattern)) (different pattern b minimum)) [ true ↦ minimum | false ↦ longer_length pattern b minimum given (different pattern b minimum) ] ]

-- How many calls a list begins with, and the longest stretch of calls.
abbrev pub longer : Bool → ℕ → ℕ
longer true after = after + 1
longer false after = 0

unfoldable pub stretch : List ℕ → ℕ
stretch [] = 0
stretch (w ∷ ws) = longer (is_call w) (stretch ws)

unfoldable pub longest : List ℕ → ℕ
longest [] = 0
longest (w ∷ ws) = max (longest ws) (stretch (w ∷ ws))

-- The longest stretch that is left after a pass with search length s; 0 where none was to come after it.
unfoldable pub left : List ℕ → ℕ → ℕ → ℕ
left pattern minimum s = elim (leb s minimum) [ true ↦ 0 | false ↦ longest pattern ]

-- A quarter of the search length where more than two thirds of the words are covered, else half of it.
unfoldable pub part_of : ℕ → ℕ → ℕ → ℕ
part_of s covered n = elim (ltb (2 * n) (3 * covered)) [ true ↦ s / 4 | false ↦ s / 2 ]
