-- The parts of the workspace that a search reads. The pattern's part is cut after cap words: where no run exceeds cap, that changes none.
-- Assumes nothing.
use Prim.Native.Nat.{ℕ, ◌+◌, ◌-◌, ◌≤◌, ◌<◌, min}
use native.Mathlib.Omega.{arith}
use mathlib.Core.Path.{◌≡◌, sym}
use mathlib.Core.List.{List}
use lib.ListN.{take, drop, length-take, length-drop}
use lib.Seq.{take-take, get_or-take}
use Rattle.buffer.proofs.Buffer.{rest_of_front}
use Rattle.tiling.specs.Run.{run}
use Rattle.tiling.proofs.Run.{run_within, run_match, run_least}
use Rattle.bounds.specs.Workspace.{Space, state}
use Rattle.sweep.specs.Row.{Row}
use Rattle.bounds.specs.declared.Job.{Job}
use Rattle.sweep.specs.declared.Found.{Found}
use Rattle.bounds.proofs.Workspace.{pattern_length}
use Rattle.plain.specs.Bounds.{Capped}

-- ---- a run of words that are cut
cut_less : (k : ℕ) (ps ts : List ℕ) → run (take k ps) ts ≤ run ps ts
cut_less k ps ts =
    run_least ps ts (run (take k ps) ts)
    (λ i h. rw (get_or-take k ps i 0 (omega (arith, run_within (take k ps) ts, length-take k ps))) at (run_match (take k ps) ts i h))

cut_same : (k : ℕ) (ps ts : List ℕ) → run ps ts ≤ k → run (take k ps) ts ≡ run ps ts
cut_same k ps ts h =
    omega (arith, cut_less k ps ts, run_least (take k ps) ts (run ps ts) (λ i l. rw (get_or-take k ps i 0 (omega arith)) (run_match ps ts i l)))

-- ---- the parts
module _ (j : Job) (ws : List ℕ) (p cap least : ℕ) (s : Space j ws) (inside : p < j.n) (e : least ≡ min cap (j.n - p)) where
  abbrev row : List ℕ
  row = drop p (state j ws).pattern

  part : take (p + least - p) (drop p ws) ≡ take least row
  part =
      let k : p + least - p ≡ least = omega arith in
      rw (k, ← rest_of_front p j.n ws) (sym (take-take least (j.n - p) (drop p ws) (omega (arith, e))))

  pub row_of_parts : (floor : ℕ) (f : Found) → Capped (state j ws) p cap → Row (take (p + least - p) (drop p ws)) (take (j.n + j.m - j.n) (drop j.n ws)) floor f → Row row (state j ws).text floor f
  row_of_parts floor f c r =
      let a : j.n + j.m - j.n ≡ j.m = omega arith in
      let q : Row (take least row) (state j ws).text floor f = rw (part, a) at r in
      record {
        least = q.least;
        most = λ u. omega (arith, q.most u, same u);
        long = λ l. omega (arith, q.long l, same f.t.0);
        first = λ l u m. omega (arith, q.first l u m, same u);
      }
    where
      -- A run is no longer than cap, nor than what is left of the pattern.
      same : (u : ℕ) → run (take least row) (drop u (state j ws).text) ≡ run row (drop u (state j ws).text)
      same u =
          cut_same least row (drop u (state j ws).text)
          (omega (arith, c u, e, run_within row (drop u (state j ws).text), length-drop p (state j ws).pattern, pattern_length j ws s))
