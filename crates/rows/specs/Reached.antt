-- What searching a row by the index promises. No reader of the engines' contracts needs it.
use Rattle.std.specs.Prelude.{ℕ, ◌+◌, ◌-◌, ◌≤◌, ◌<◌, min, ◌≡◌, Bool, true, false, ◌&&◌, List, leb, ltb, eqb, drop, get_or}
use Rattle.symbol.specs.Word.{equal_calls}
use Rattle.tiling.specs.Run.{run, equal_run}
use Rattle.tiling.specs.Tiling.{State, run_at}
use Rattle.tile.specs.declared.TextAt.{TextAt}
use Rattle.measure.specs.Block.{counted}
use Rattle.bounds.specs.Workspace.{state}
use Rattle.sweep.specs.Row.{better, bound_by, before, passed_over}
use Rattle.sweep.specs.declared.Found.{Found}
use Rattle.bounds.specs.declared.Job.{Job}
use Rattle.index.specs.Indexed.{pattern_hash, text_hash, place}
use Rattle.index.specs.declared.pass.Pass.{Pass}
use Rattle.rows.specs.declared.Walk.{Walk}

-- Where a run of s words or more begins, the two windows have the same hash.
abbrev pub Alike : Pass → List ℕ → Type 0
Alike x ws = (p u : ℕ) → x.s ≤ run_at (state x.job ws) p u → text_hash x.job ws u ≡ pattern_hash x.job ws p

-- The longest run of a row and the first position that has it, as in `Row`, but the search may end once it has met a run of `cap` words.
pub record Reached (ps ts : List ℕ) (floor cap : ℕ) (f : Found) : Type 0 where
  pub least : floor ≤ f.len
  pub most : f.len < cap → (u : ℕ) → run ps (drop u ts) ≤ f.len
  pub long : floor < f.len → run ps (drop f.t.0 ts) ≡ f.len
  pub first : floor < f.len → (u : ℕ) → u < f.t.0 → run ps (drop u ts) < f.len

-- A row was searched for a run of `cap` words, or another row tells of it.
pub record Looked (s : State) (p cap : ℕ) (f : Found) : Type 0 where
  pub small : f.len ≤ 2048
  pub most : f.len < cap → (u : ℕ) → run_at s p u ≤ f.len
  pub long : cap ≤ f.len → run_at s p f.t.0 ≡ f.len
  pub first : cap ≤ f.len → (u : ℕ) → u < f.t.0 → run_at s p u < f.len

-- What was found, and the offset where the last run ended, are of row p.
pub record Within (x : Pass) (p : ℕ) (w : Walk) : Type 0 where
  pub low : x.s ≤ w.found.len + 1
  pub far : p + (w.found.len + 1 - x.s) ≤ x.job.n
  pub inside : p + w.ended ≤ x.job.n

-- The windows of s words that begin at a pair of positions, and those that end just beyond what was found, have the same hashes, and the
-- words at which the last run ended are equal calls.
unfoldable pub may_be_longer : Pass → List ℕ → ℕ → ℕ → Walk → Bool
may_be_longer x ws p t w =
    let j = x.job in
    let d = w.found.len + 1 - x.s in
    eqb (text_hash j ws t) (pattern_hash j ws p) && (eqb (text_hash j ws (t + d)) (pattern_hash j ws (p + d)) && equal_calls (get_or ws (p + w.ended) 0) (get_or ws (j.n + t + w.ended) 0))

-- After a run of len words at t: it is kept where it is longer, and the positions within it are passed over where that loses nothing.
unfoldable pub after_run : Walk → TextAt → ℕ → Walk
after_run w t len =
    record { found = better w.found t len; ended = min len w.found.len; again = w.again; past = t.0 + 1 + passed_over w.again len }

-- After a visit of position t: the run there counts where t is not passed over and the run may be longer.
unfoldable pub visited : Pass → List ℕ → ℕ → TextAt → Walk → Walk
visited x ws p t w =
    elim (leb w.past t.0 && may_be_longer x ws p t.0 w)
    [ true ↦ after_run w t (counted w.found.len (run_at (state x.job ws) p t.0)) | false ↦ w ]

-- Before the first visit.
pub record Begun (x : Pass) (ws : List ℕ) (p : ℕ) (w : Walk) : Type 0 where
  pub at : w.found.t.0 ≡ 0
  pub floor : w.found.len ≡ x.s - 1
  pub ended : w.ended ≡ 0
  pub again : w.again ≡ equal_run (drop p (state x.job ws).pattern) (drop 1 (drop p (state x.job ws).pattern))
  pub past : w.past ≡ 0

-- What row q, which was remembered, tells of row p: nothing where it is past the pattern or its window has another hash.
unfoldable pub told_by : Pass → List ℕ → List ℕ → ℕ → ℕ → ℕ → ℕ
told_by x ws last p from cap =
    let q = get_or last (place (pattern_hash x.job ws p)) 0 in
    elim (ltb q x.job.n && eqb (pattern_hash x.job ws q) (pattern_hash x.job ws p))
    [ true ↦ bound_by x.job ws p q from cap | false ↦ cap ]

-- The windows at p and just before t have the same hash, and the words there are equal calls.
unfoldable pub goes_on : Job → List ℕ → ℕ → ℕ → Bool
goes_on j ws p t =
    ltb (before t j.m) j.m && (eqb (text_hash j ws (before t j.m)) (pattern_hash j ws p) && equal_calls (get_or ws p 0) (get_or ws (j.n + before t j.m) 0))
