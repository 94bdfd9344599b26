-- What the pair program prints for any input: the bytes of its output as a function of the bytes of its input.
use Rattle.std.specs.Prelude.{ℕ, ◌+◌, max, List, [], ◌∷◌, ◌++◌, ℤ, length, drop}
use Rattle.refusal.specs.Refusal.{outcome}
use Rattle.record.specs.Format.{id_of}
use Rattle.record.specs.Reading.{head, count, sequence, fault}
use Rattle.tiling.specs.Comparing.{sequences, minimums, settings}
use Rattle.tiling.specs.Listing.{Entry, listing, covered, score, shift}
use Rattle.lines.specs.Text.{ascii, decimal, signed, phrase, line}
use Rattle.report.specs.Words.{words_of}

-- ---- the lines
-- "per tile first start, second start, length, shift". "printed with its sign"
unfoldable pub shift_end : ℤ → List ℕ
shift_end z = ascii " " ++ (signed z ++ ascii "\n")

unfoldable pub tile_line : Entry → List ℕ
tile_line e = phrase (decimal e.first) (e.second ∷ e.len ∷ []) ++ shift_end (shift e)

unfoldable pub tile_lines : List Entry → List ℕ
tile_lines [] = []
tile_lines (e ∷ es) = tile_line e ++ tile_lines es

-- "Lines: fish numbers; minimum; tile count; per tile ..; covered and both lengths; score." Here in three parts; a and b are the ids (01:
-- fish numbers), n and m the lengths.
unfoldable pub opening : ℕ → ℕ → ℕ → ℕ → List ℕ
opening a b minimum tiles =
    line (ascii "FISH") (a ∷ b ∷ [])
    ++ (line (ascii "MINIMUM") (minimum ∷ []) ++ line (ascii "TILES") (tiles ∷ []))

unfoldable pub closing : ℕ → ℕ → ℕ → ℕ → List ℕ
closing sum n m points =
    phrase (ascii "COVERED") (sum ∷ [])
    ++ (line (ascii " OF") (n ∷ m ∷ []) ++ line (ascii "SCORE") (points ∷ []))

unfoldable pub pair_lines : ℕ → ℕ → ℕ → ℕ → ℕ → List Entry → List ℕ
pair_lines a b minimum n m tiles =
    opening a b minimum (length tiles)
    ++ (tile_lines tiles ++ closing (covered tiles) n m (score (covered tiles) (n + m)))

-- ---- the whole
-- "A refusal prints one line, REFUSED and its number." Where r is 0 nothing is refused and the lines are printed.
unfoldable pub refused_line : ℕ → List ℕ
refused_line r = line (ascii "REFUSED") (r ∷ [])

abbrev pub unless : ℕ → List ℕ → List ℕ
unless r lines = outcome r lines (refused_line r)

-- Why a record cannot be read; the buffer for its sequence always suffices.
abbrev pub reading : List ℕ → ℕ
reading src = fault src 0

-- Why two sequences cannot be compared: "256 buckets and first search length 20, or the minimum if larger". Workspace and tile buffer
-- always suffice.
abbrev pub comparing : List ℕ → List ℕ → ℕ → ℕ
comparing first second minimum = sequences first second (minimums minimum (settings minimum 256 (max 20 minimum) 0))

-- "The first strip is read, then the second, then the pair is compared." What is printed where the pair is at hand: two ids, the minimum
-- and two sequences; where the second record has to be read from src; where the first has.
unfoldable pub from_pair : ℕ → ℕ → ℕ → List ℕ → List ℕ → List ℕ
from_pair a b minimum first second =
    unless (comparing first second minimum)
    (pair_lines a b minimum (length first) (length second) (listing first second minimum))

unfoldable pub from_second : ℕ → ℕ → List ℕ → List ℕ → List ℕ
from_second a minimum first src =
    unless (reading src)
    (from_pair a (id_of (head src)) minimum first (sequence src))

unfoldable pub from_first : ℕ → List ℕ → List ℕ
from_first minimum src =
    unless (reading src)
    (from_second (id_of (head src)) minimum (sequence src) (drop (count src + 2) src))

-- "Standard input: one word holding the minimum, then two strips. .. A missing minimum word .. is 8".
unfoldable pub from_words : List ℕ → List ℕ
from_words [] = refused_line 8
from_words (minimum ∷ src) = from_first minimum src

unfoldable pub pair_report : List ℕ → List ℕ
pair_report input = from_words (words_of input)
