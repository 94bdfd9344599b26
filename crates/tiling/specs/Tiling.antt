-- The greedy string tiling of a pattern and a text. It knows no hash, pass or search length.
use Rattle.std.specs.Prelude.{ℕ, ◌+◌, ◌≤◌, ◌<◌, ◌≡◌, Bool, true, List, map, length, drop, get_or}
use Rattle.symbol.specs.Word.{replaced, matches}
use Rattle.symbol.specs.Sequence.{Current}
use Rattle.tiling.specs.Run.{leading, mark}
use Rattle.tiling.specs.Greedy.{peak, greedy}

-- A tile: where it starts on the pattern, where on the text, and its length (000 writes p, t and length).
pub record Tile : Type 0 where
  pub p : ℕ
  pub t : ℕ
  pub len : ℕ

-- The two sequences with the words marked so far.
pub record State : Type 0 where
  pub pattern : List ℕ
  pub text : List ℕ

-- "It becomes a tile and its words on both strands are marked."
unfoldable pub lay : State → Tile → State
lay s k = record { pattern = mark k.p k.len s.pattern; text = mark k.t k.len s.text }

-- A tile's length, and its start on either side.
abbrev pub size : Tile → ℕ
size k = k.len

abbrev pub on_pattern : Tile → ℕ
on_pattern k = k.p

abbrev pub on_text : Tile → ℕ
on_text k = k.t

-- The tiling by any match of two words.
module _ (match : ℕ → ℕ → Bool) where
  -- The length of the run at (p, t).
  abbrev pub run_by : State → ℕ → ℕ → ℕ
  run_by s p t = leading match (drop p s.pattern) (drop t s.text)

  -- The first position of the text at which the run from p is longest, and that run's length.
  unfoldable pub best_text_by : State → ℕ → ℕ
  best_text_by s p = peak (run_by s p) (length s.text)

  unfoldable pub row_length_by : State → ℕ → ℕ
  row_length_by s p = run_by s p (best_text_by s p)

  -- "take the longest, on equal length the one with the smallest p, then the smallest t". A length of 0 stands for none.
  unfoldable pub best_by : State → Tile
  best_by s =
      let p = peak (row_length_by s) (length s.pattern) in
      record { p = p; t = best_text_by s p; len = row_length_by s p }

  -- The tiles in the order laid. Each takes at least one word of the pattern, so its length is fuel enough.
  unfoldable pub tiling_by : ℕ → State → List Tile
  tiling_by minimum s = greedy best_by size lay (length s.pattern) minimum s

-- "The greedy tiling is meant over this match from then on": words match whose replaced codes are equal (02, U4).
abbrev pub run_at : State → ℕ → ℕ → ℕ
run_at = run_by matches

abbrev pub best_text : State → ℕ → ℕ
best_text = best_text_by matches

abbrev pub row_length : State → ℕ → ℕ
row_length = row_length_by matches

abbrev pub best : State → Tile
best = best_by matches

abbrev pub tiling : ℕ → State → List Tile
tiling = tiling_by matches

-- The same as facts about a tile: no run is longer, each run at a smaller p is shorter, each run at the same p and a smaller t is shorter.
pub record Best (s : State) (k : Tile) : Type 0 where
  pub long : k.len ≡ run_at s k.p k.t
  pub most : (p t : ℕ) → run_at s p t ≤ k.len
  pub above : (p t : ℕ) → p < k.p → run_at s p t < k.len
  pub before : (t : ℕ) → t < k.t → run_at s k.p t < k.len

-- A tile that lies within both sequences, with "words matching one by one from p and from t".
pub record Lies (s : State) (k : Tile) : Type 0 where
  pub in_pattern : k.p + k.len ≤ length s.pattern
  pub in_text : k.t + k.len ≤ length s.text
  pub matching : (i : ℕ) → i < k.len → matches (get_or s.pattern (k.p + i) 0) (get_or s.text (k.t + i) 0) ≡ true

-- "all words start unmarked"
abbrev pub start : List ℕ → List ℕ → State
start pattern text = record { pattern = pattern; text = text }

-- The same state with every word replaced; and a state in which they all are.
abbrev pub replaced_in : State → State
replaced_in s = record { pattern = map replaced s.pattern; text = map replaced s.text }

pub record AllCurrent (s : State) : Type 0 where
  pub of_pattern : Current s.pattern
  pub of_text : Current s.text
