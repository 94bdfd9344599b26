-- Why a comparison is refused. "Comparing checks 1 to 7 in that order." The plain engine has no settings, so no 4 and 5.
use Rattle.std.specs.Prelude.{ℕ, ◌+◌, ◌*◌, ◌/◌, ◌≤◌, min, ◌≡◌, true, not, List, eqb, ltb, length}
use Rattle.symbol.specs.Sequence.{all_sound, too_long}
use Rattle.refusal.specs.Refusal.{refuse}

-- 1: "A strand has more than 2,048 words"; 2: "A strand word is neither call nor no-call".
abbrev pub sequences : List ℕ → List ℕ → ℕ → ℕ
sequences first second later =
    refuse (too_long first) 1
    (refuse (too_long second) 1
    (refuse (not (all_sound first)) 2
    (refuse (not (all_sound second)) 2 later)))

-- 3: "Minimum not 1 to 256".
abbrev pub minimums : ℕ → ℕ → ℕ
minimums minimum later = refuse (eqb minimum 0) 3 (refuse (ltb 256 minimum) 3 later)

-- 4: "Bucket count not 1 to 1,024"; 5: "First search length below the minimum or above 2,048".
abbrev pub settings : ℕ → ℕ → ℕ → ℕ → ℕ
settings minimum buckets start later =
    refuse (eqb buckets 0) 4
    (refuse (ltb 1024 buckets) 4
    (refuse (ltb start minimum) 5
    (refuse (ltb 2048 start) 5 later)))

-- 6: "Workspace below 4 × (sum of lengths) words". Of the sequences only the lengths count.
abbrev pub workspaces : ℕ → ℕ → ℕ → ℕ → ℕ
workspaces first second workspace later = refuse (ltb workspace (4 * (first + second))) 6 later

-- The same and 7: "Tile buffer below 3 × (shorter length divided by minimum, rounded down) words".
abbrev pub room : ℕ → ℕ → ℕ → ℕ → ℕ → ℕ → ℕ
room first second minimum workspace tiles later =
    workspaces first second workspace (refuse (ltb tiles (3 * (min first second / minimum))) 7 later)

-- The sequences, the minimum, and how many words the workspace and the tile buffer have.
abbrev pub plain_refusal : List ℕ → List ℕ → ℕ → ℕ → ℕ → ℕ
plain_refusal first second minimum workspace tiles =
    sequences first second (minimums minimum (room (length first) (length second) minimum workspace tiles 0))

-- What every service that compares checks of sequences, minimum, bucket count and first search length, and what it checks later. Any
-- multiplier will do.
abbrev pub search_checks : List ℕ → List ℕ → ℕ → ℕ → ℕ → ℕ → ℕ
search_checks first second minimum buckets start later = sequences first second (minimums minimum (settings minimum buckets start later))

-- The same with a workspace and a tile buffer.
abbrev pub fast_checks : List ℕ → List ℕ → ℕ → ℕ → ℕ → ℕ → ℕ → ℕ → ℕ
fast_checks first second minimum buckets start workspace tiles later =
    search_checks first second minimum buckets start (room (length first) (length second) minimum workspace tiles later)

abbrev pub fast_refusal : List ℕ → List ℕ → ℕ → ℕ → ℕ → ℕ → ℕ → ℕ
fast_refusal first second minimum buckets start workspace tiles = fast_checks first second minimum buckets start workspace tiles 0

-- Where no cause holds, part by part. The causes 1 to 3: two sequences that can be compared at this minimum.
pub record Comparable (first second : List ℕ) (minimum : ℕ) : Type 0 where
  pub first_short : length first ≤ 2048
  pub second_short : length second ≤ 2048
  pub first_sound : all_sound first ≡ true
  pub second_sound : all_sound second ≡ true
  pub least : 1 ≤ minimum
  pub most : minimum ≤ 256

-- The causes 4 and 5: settings of the search in their ranges.
pub record InRange (minimum buckets start : ℕ) : Type 0 where
  pub some_bucket : 1 ≤ buckets
  pub few_buckets : buckets ≤ 1024
  pub start_least : minimum ≤ start
  pub start_most : start ≤ 2048

-- The causes 6 and 7: a workspace and a tile buffer of at least the words that the table asks for, for sequences of these lengths. Exact
-- ones have just as many.
pub record Roomy (first second minimum workspace tiles : ℕ) : Type 0 where
  pub work_room : 4 * (first + second) ≤ workspace
  pub tile_room : 3 * (min first second / minimum) ≤ tiles
