-- Whether two sequences score at least a threshold (02, U5: the line), for any input, and how many tiles it takes to tell.
use Rattle.std.specs.Prelude.{ℕ, ◌+◌, ◌≡◌, Bool, not, ◌||◌, List, leb, ltb, length}
use Rattle.refusal.specs.Refusal.{refuse, outcome}
use Rattle.tiling.specs.Tally.{one}
use Rattle.tiling.specs.Stretch.{fillable}
use Rattle.tiling.specs.Listing.{Entry, listing, covered, score}
use Rattle.tiling.specs.Until.{Far, first_listed}
use Rattle.tiling.specs.Comparing.{search_checks, workspaces}
use Rattle.tiling.specs.Answer.{cleared}
use Rattle.threshold.specs.declared.Told.{Told}

-- "a line above 1,000 is 12, after 6"; "No tile buffer is lent", so that there is no 7. Sequences, minimum, bucket count, first search length
-- and threshold; then how many words the workspace has.
abbrev pub threshold_refusal : List ℕ → List ℕ → ℕ → ℕ → ℕ → ℕ → ℕ → ℕ
threshold_refusal first second minimum buckets start threshold workspace =
    search_checks first second minimum buckets start (workspaces (length first) (length second) workspace (refuse (ltb 1000 threshold) 12 0))

-- So many covered words, of sequences with total words together, score at least the threshold.
abbrev pub reaches : ℕ → ℕ → ℕ → Bool
reaches threshold total covered = leb threshold (score covered total)

-- It is told after some tiles: "their covered count scores at least the line, or less even with the pattern's free stretches of at least the
-- minimum length added".
unfoldable pub told : ℕ → ℕ → ℕ → Far → Bool
told threshold total minimum f = reaches threshold total f.covered || not (reaches threshold total (f.covered + fillable minimum f.pattern))

-- "the fewest, 0 included, after which" it is told; "else the whole list".
abbrev pub told_tiles : List ℕ → List ℕ → ℕ → ℕ → List Entry
told_tiles first second minimum threshold = first_listed (told threshold (length first + length second) minimum) first second minimum

-- "say yes exactly when the full comparison's score is at least the line".
abbrev pub is_reached : List ℕ → List ℕ → ℕ → ℕ → Bool
is_reached first second minimum threshold = reaches threshold (length first + length second) (covered (listing first second minimum))

-- The answer, where r is the refusal's number: 1 for yes, 0 for no, and the tiles laid.
abbrev pub told_answer : ℕ → List ℕ → List ℕ → ℕ → ℕ → Told
told_answer r first second minimum threshold =
    record {
      refusal = r;
      reached = outcome r (one (is_reached first second minimum threshold)) 0;
      tiles = outcome r (length (told_tiles first second minimum threshold)) 0;
    }

-- A call was lent the workspace ws; it answers a and leaves ws'.
pub record AtLeast (first second : List ℕ) (minimum buckets start threshold : ℕ) (ws : List ℕ) (a : Told) (ws' : List ℕ) : Type 0 where
  pub answer : a ≡ told_answer (threshold_refusal first second minimum buckets start threshold (length ws)) first second minimum threshold
  pub workspace : ws' ≡ cleared (threshold_refusal first second minimum buckets start threshold (length ws)) ws
