-- The bounds, from the last row to the first: what the row that was searched last tells, what is taken over, and what a search finds. Where a row
-- is searched for the level, a run so long is the first of the longest.
-- Assumes nothing.
use Prim.Native.Nat.{ℕ, ◌+◌, ◌-◌, ◌/◌, ◌≤◌, ◌<◌}
use native.Mathlib.Decide.{dec_lt}
use native.Mathlib.Omega.{arith}
use mathlib.Core.Path.{◌≡◌, refl, sym, ◌∙◌}
use mathlib.Core.Bool.{Bool, true, false}
use mathlib.Core.List.{List}
use borrow.Author.Tests.{ltb-true, lt-ltb, le-ltb}
use lib.Dec.{ltb}
use lib.ListN.{drop, get_or, length-drop}
use Rattle.symbol.specs.Word.{equal_calls}
use Rattle.symbol.proofs.Word.{and_left}
use Rattle.tile.specs.declared.TextAt.{TextAt}
use Rattle.bounds.specs.Workspace.{Space, state, bound}
use Rattle.sweep.specs.Row.{Row, bound_by, free_words, before}
use Rattle.sweep.specs.Progress.{Searched, UpperFrom, RowBound}
use Rattle.bounds.specs.declared.Job.{Job}
use Rattle.sweep.specs.declared.Found.{Found}
use Rattle.sweep.proofs.Told.{bound_tells, bound_told, free_tells, telling_both, before_some}
use Rattle.sweep.proofs.Row.{row_small}
use Rattle.bounds.proofs.Workspace.{pattern_length}
use Rattle.plain.specs.Bounds.{Capped, goes_on}

-- ---- a run that goes on
module _ (j : Job) (ws : List ℕ) (p t u : ℕ) (e : u ≡ before t j.m) where
  pub goes_not : j.m ≤ u → false ≡ goes_on j ws p t
  unfolding goes_on
  goes_not h = rw (goes_on, ← e, le-ltb u j.m h) refl

  pub goes_by : u < j.m → (r : Bool) → r ≡ equal_calls (get_or ws p 0) (get_or ws (j.n + u) 0) → r ≡ goes_on j ws p t
  unfolding goes_on
  goes_by h r w = w ∙ rw (goes_on, ← e, lt-ltb u j.m h) refl

pub goes_back : (j : Job) (ws : List ℕ) (p t : ℕ) (b : Bool) → b ≡ goes_on j ws p t → b ≡ true → 1 ≤ t
unfolding goes_on
goes_back j ws p t b e z = before_some t j.m (ltb-true (before t j.m) j.m (and_left (ltb (before t j.m) j.m) _ (sym e ∙ z)))

-- ---- one row
module _ (j : Job) (ws : List ℕ) (p cap : ℕ) (space : Space j ws) where
  pub bound_known : (q r : ℕ) → RowBound j (state j ws) p cap → UpperFrom j ws (p + 1) → r ≡ bound_by j ws p q (p + 1) cap → RowBound j (state j ws) p r
  bound_known q r c upper e = bound_told j ws p cap r c (bound_tells j ws p q cap space (p + 1) r upper e)

  pub bound_found : j.minimum ≤ cap → (f : Found) → RowBound j (state j ws) p cap → Row (drop p (state j ws).pattern) (state j ws).text ((j.minimum - 1) / 2) f → RowBound j (state j ws) p f.len
  bound_found h f c r = record { most = r.most; within = within (dec_lt ((j.minimum - 1) / 2) f.len) }
    where
      within : Dec ((j.minimum - 1) / 2 < f.len) → p + f.len ≤ j.n
      within (yes l) = omega (arith, r.long l, c.most f.t.0, c.within)
      within (no l) = omega (arith, r.least, c.within, l)

-- ---- a row of the level
module _ (j : Job) (ws : List ℕ) (p cap : ℕ) (space : Space j ws) (inside : p < j.n) (full : cap ≡ bound j ws p) (upper : UpperFrom j ws 0) where
  pub level_caps : Capped (state j ws) p cap
  level_caps u = omega (arith, upper p u (omega arith) inside, full)

  pub found_told : 1 ≤ j.minimum → j.minimum ≤ cap → (free q r : ℕ) (a : TextAt) → free ≡ free_words j ws p cap → r ≡ bound_by j ws p q 0 free → r < cap → Searched j ws cap p (record { t = a; len = r })
  found_told least long free q r a k e h =
      let t = telling_both j ws p cap free r (free_tells j ws p cap free space inside (omega arith) k) (bound_tells j ws p q free space 0 r upper e) in
      record {
        small = omega (arith, t.inside h, space.short_pattern);
        within = omega arith;
        most = t.most h;
        long = λ z. absurd (omega arith);
        first = λ z. absurd (omega arith);
      }

  pub found_row : 1 ≤ j.minimum → j.minimum ≤ 256 → j.minimum ≤ cap → (f : Found) → Row (drop p (state j ws).pattern) (state j ws).text (j.minimum - 1) f → Searched j ws cap p f
  found_row least most long f r =
      record {
        small =
            row_small (drop p (state j ws).pattern) (state j ws).text (j.minimum - 1) 2048 f r (omega arith)
            (omega (arith, length-drop p (state j ws).pattern, pattern_length j ws space, space.short_pattern));
        within = within (dec_lt (j.minimum - 1) f.len);
        most = r.most;
        long = λ z. r.long (omega (arith, z)) ∙ z;
        first = λ z u l. omega (arith, r.first (omega (arith, z)) u l, z);
      }
    where
      within : Dec (j.minimum - 1 < f.len) → f.len ≤ cap
      within (yes l) = omega (arith, r.long l, level_caps f.t.0)
      within (no l) = omega (arith, l)
