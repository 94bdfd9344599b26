-- The index of a pass, as the search reads it. No reader of the engines' contracts needs it.
use Rattle.std.specs.Prelude.{ℕ, ◌+◌, ◌*◌, ◌/◌, ◌%◌, ◌^◌, ◌≤◌, ◌<◌, ◌≡◌, Bool, true, List, get_or}
use Rattle.tiling.specs.Tiling.{run_at}
use Rattle.window.specs.Hash.{bucket}
use Rattle.bounds.specs.Workspace.{state, bounds_from}
use Rattle.bounds.specs.declared.Job.{Job}
use Rattle.index.specs.declared.pass.Pass.{Pass}

-- Where a pass keeps the hash of the window at a position, and where a position of the text points on to.
abbrev pub pattern_hash : Job → List ℕ → ℕ → ℕ
pattern_hash j ws p = get_or ws (j.n + j.m + p) 0

abbrev pub text_hash : Job → List ℕ → ℕ → ℕ
text_hash j ws t = get_or ws (j.n + j.m + j.n + t) 0

abbrev pub link : Job → List ℕ → ℕ → ℕ
link j ws t = get_or ws (bounds_from j + j.n + t) 0

-- Which entry of the filter a hash has: the leading bits of its product with an odd number, to which all bits of the hash contribute.
unfoldable pub slot : ℕ → ℕ
slot h = h * 2654435769 % 2 ^ 32 / 2 ^ 20

-- And its place among 1,024, by two bits less.
unfoldable pub place : ℕ → ℕ
place h = slot h / 4

-- What the search goes by while tiles are laid. Where a run of s words or more begins, the two windows have the same hash, and walking
-- from the head of its bucket never steps over that position of the text. The positions on the way are those that were linked in
-- the bucket. Past the last one stands a number that is not below the text's length.
pub record Indexed (x : Pass) (ws heads : List ℕ) : Type 0 where
  pub linked : ℕ → ℕ → Bool
  pub least : 1 ≤ x.s
  pub kin : (p u : ℕ) → x.s ≤ run_at (state x.job ws) p u → text_hash x.job ws u ≡ pattern_hash x.job ws p
  pub head : (p u : ℕ) → x.s ≤ run_at (state x.job ws) p u → get_or heads (bucket x.buckets (pattern_hash x.job ws p)) 0 ≤ u
  pub next : (p u v : ℕ) → x.s ≤ run_at (state x.job ws) p u → v < u → linked (bucket x.buckets (pattern_hash x.job ws p)) v ≡ true → link x.job ws v ≤ u
  pub head_linked : (b : ℕ) → b < 1024 → get_or heads b 0 < x.job.m → linked b (get_or heads b 0) ≡ true
  pub next_linked : (b v : ℕ) → v < x.job.m → linked b v ≡ true → link x.job ws v < x.job.m → linked b (link x.job ws v) ≡ true
  pub rising : (b v : ℕ) → v < x.job.m → linked b v ≡ true → v < link x.job ws v

-- Where a run of s words or more begins, the filter says that both sequences have a window with its entry.
pub record Filtered (x : Pass) (ws filter : List ℕ) : Type 0 where
  pub known : (p u : ℕ) → x.s ≤ run_at (state x.job ws) p u → get_or filter (slot (pattern_hash x.job ws p)) 0 ≡ 2
