-- The two ends of a comparison: what it starts from, and what it answers. No reader of the engines' contracts needs these.
use Rattle.std.specs.Prelude.{ℕ, ◌+◌, ◌*◌, true, ◌≡◌, List, ◌++◌, map, length, replicate}
use Rattle.symbol.specs.Word.{replaced}
use Rattle.buffer.specs.Buffer.{onto}
use Rattle.tiling.specs.Run.{mark}
use Rattle.tiling.specs.Choice.{first_is_pattern, pattern_of, text_of}
use Rattle.tiling.specs.Stretch.{if_long}
use Rattle.tiling.specs.Listing.{score}
use Rattle.tiling.specs.declared.Compared.{Compared}
use Rattle.sweep.specs.declared.Goal.{Goal}
use Rattle.bounds.specs.declared.Job.{Job}
use Rattle.sweep.specs.declared.Totals.{Totals}

-- The goal of a whole comparison. None covers more than 2,048 words, so that it is never reached.
abbrev pub whole_goal : Goal
whole_goal = record { listed = true; enough = 2049; needed = 0 }

-- The job of two sequences at a minimum.
abbrev pub job_of : List ℕ → List ℕ → ℕ → Job
job_of first second minimum =
    record {
      n = length (pattern_of first second);
      m = length (text_of first second);
      minimum = minimum;
      straight = first_is_pattern first second;
    }

-- What a comparison begins with: the workspace has the replaced words of pattern and text at its start, and chains in which each word has its
-- neighbours for the next and the previous one.
abbrev pub begun : List ℕ → List ℕ → List ℕ → List ℕ
begun pattern text ws =
    mark (3 * (length pattern + length text)) (length pattern + length text) (onto (map replaced pattern ++ map replaced text) ws)

-- A comparison was opened: its job, and the workspace.
pub record Opened (first second : List ℕ) (minimum : ℕ) (ws : List ℕ) (j : Job) (ws' : List ℕ) : Type 0 where
  pub job : j ≡ job_of first second minimum
  pub copied : ws' ≡ begun (pattern_of first second) (text_of first second) ws

-- Nothing is laid yet, and all words are free.
abbrev pub no_tiles : Job → Goal → Totals
no_tiles j goal = record { count = 0; covered = 0; fillable = if_long j.minimum j.n; goal = goal }

-- The answer of tiles that were laid.
abbrev pub answer_of : ℕ → Totals → Compared
answer_of total k = record { refusal = 0; tiles = k.count; covered = k.covered; score = score k.covered total }

-- A comparison was closed: its answer, and the workspace, which is zero.
pub record Closed (total : ℕ) (k : Totals) (ws : List ℕ) (a : Compared) (ws' : List ℕ) : Type 0 where
  pub answer : a ≡ answer_of total k
  pub cleared : ws' ≡ replicate (length ws) 0
