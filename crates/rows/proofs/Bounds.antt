-- The bounds that the search sets. A row that the filter does not know has no run of s words; another row may tell of it; and what a search
-- finds is a bound.
-- Assumes nothing.
use Prim.Native.Nat.{ℕ, ◌+◌, ◌-◌, ◌≤◌, ◌<◌}
use native.Mathlib.Decide.{dec_lt}
use native.Mathlib.Omega.{arith}
use mathlib.Core.Path.{◌≡◌, refl, sym, ◌∙◌, ap, subst}
use mathlib.Core.Bool.{Bool, true, false, ◌&&◌}
use mathlib.Core.List.{List}
use borrow.Author.Tests.{ltb-true, lt-ltb, le-ltb, eq-eqb, ne_eqb}
use lib.Dec.{ltb, eqb}
use lib.ListN.{drop, get_or, length-drop}
use Rattle.symbol.specs.Word.{equal_calls}
use Rattle.symbol.proofs.Word.{and_left}
use Rattle.tiling.specs.Tiling.{State, run_at}
use Rattle.tiling.proofs.Run.{run_within}
use Rattle.tile.specs.declared.TextAt.{TextAt}
use Rattle.bounds.specs.Workspace.{Space, state}
use Rattle.sweep.specs.Row.{bound_by, free_words, before}
use Rattle.sweep.specs.Progress.{UpperFrom, RowBound}
use Rattle.sweep.specs.declared.Found.{Found}
use Rattle.bounds.specs.declared.Job.{Job}
use Rattle.bounds.proofs.Workspace.{pattern_length}
use Rattle.sweep.proofs.Told.{Telling, telling_none, telling_both, free_tells, bound_tells, bound_told, before_some}
use Rattle.index.specs.Indexed.{pattern_hash, text_hash, place}
use Rattle.index.specs.declared.pass.Pass.{Pass}
use Rattle.rows.specs.Reached.{Reached, Looked, told_by, goes_on}

-- ---- what was remembered

-- ---- what a row that was remembered tells
module _ (x : Pass) (ws last : List ℕ) (p from cap own b q : ℕ) (eo : own ≡ pattern_hash x.job ws p) (eb : b ≡ place own) (eq : q ≡ get_or last b 0) where
  row : q ≡ get_or last (place (pattern_hash x.job ws p)) 0
  row = eq ∙ rw (eb, eo) refl

  pub told_past : x.job.n ≤ q → cap ≡ told_by x ws last p from cap
  unfolding told_by
  told_past h = rw (told_by, ← row, le-ltb q x.job.n h) refl

  pub told_unlike : q < x.job.n → (h : ℕ) → h ≡ pattern_hash x.job ws q → (h ≡ own → ⊥) → cap ≡ told_by x ws last p from cap
  unfolding told_by
  told_unlike i h e d =
      let k : eqb (pattern_hash x.job ws q) (pattern_hash x.job ws p) ≡ false = ne_eqb _ _ (λ z. d (e ∙ (z ∙ sym eo))) in
      rw (told_by, ← row, lt-ltb q x.job.n i, k) refl

  pub told_row : q < x.job.n → (h : ℕ) → h ≡ pattern_hash x.job ws q → h ≡ own → (r : ℕ) → r ≡ bound_by x.job ws p q from cap → r ≡ told_by x ws last p from cap
  unfolding told_by
  told_row i h e z r w =
      let k : eqb (pattern_hash x.job ws q) (pattern_hash x.job ws p) ≡ true = eq-eqb _ _ (sym e ∙ (z ∙ eo)) in
      w ∙ rw (told_by, ← row, lt-ltb q x.job.n i, k) (ap (λ z. bound_by x.job ws p z from cap) row)

pub told_tells : (x : Pass) (ws last : List ℕ) (p from cap r : ℕ) → Space x.job ws → UpperFrom x.job ws from → r ≡ told_by x ws last p from cap → Telling x.job ws p cap r
unfolding told_by
told_tells x ws last p from cap r space upper e =
    let q = get_or last (place (pattern_hash x.job ws p)) 0 in
    subst (λ z. Telling x.job ws p cap z) (sym e) (go q (ltb q x.job.n && eqb (pattern_hash x.job ws q) (pattern_hash x.job ws p)))
  where
    go : (q : ℕ) (c : Bool) → Telling x.job ws p cap (elim c [ true ↦ bound_by x.job ws p q from cap | false ↦ cap ])
    go q true = bound_tells x.job ws p q cap space from (bound_by x.job ws p q from cap) upper refl
    go q false = telling_none x.job ws p cap

-- ---- a row that is looked at for a run of cap words
module _ (x : Pass) (ws : List ℕ) (p cap : ℕ) (space : Space x.job ws) where
  pub looked_told : (last : List ℕ) (free r : ℕ) (a : TextAt) → p < x.job.n → x.s ≤ cap → UpperFrom x.job ws 0 → free ≡ free_words x.job ws p cap → r ≡ told_by x ws last p 0 free → r < cap → Looked (state x.job ws) p cap (record { t = a; len = r })
  looked_told last free r a row long upper k e h =
      let t = telling_both x.job ws p cap free r (free_tells x.job ws p cap free space row (omega (arith, x.one)) k) (told_tells x ws last p 0 free r space upper e) in
      record { small = omega (arith, t.inside h, space.short_pattern); most = t.most; long = λ l. absurd (omega arith); first = λ l. absurd (omega arith) }

  pub looked_found : (f : Found) → x.s ≤ cap → Reached (drop p (state x.job ws).pattern) (state x.job ws).text (x.s - 1) cap f → Looked (state x.job ws) p cap f
  looked_found f h r =
      record {
        small = small (dec_lt (x.s - 1) f.len);
        most = r.most;
        long = λ l. r.long (omega (arith, x.one));
        first = λ l. r.first (omega (arith, x.one));
      }
    where
      small : Dec (x.s - 1 < f.len) → f.len ≤ 2048
      small (yes l) =
          omega (arith, r.long l, run_within (drop p (state x.job ws).pattern) (drop f.t.0 (state x.job ws).text), length-drop p (state x.job ws).pattern, pattern_length x.job ws space, space.short_pattern)
      small (no l) = omega (arith, l, x.most)

-- ---- a run that goes on
module _ (j : Job) (ws : List ℕ) (p t u : ℕ) (e : u ≡ before t j.m) where
  pub goes_not : j.m ≤ u → false ≡ goes_on j ws p t
  unfolding goes_on
  goes_not h = rw (goes_on, ← e, le-ltb u j.m h) refl

  module _ (inside : u < j.m) (h : Bool) (k : h ≡ eqb (text_hash j ws u) (pattern_hash j ws p)) where
    pub goes_unlike : h ≡ false → false ≡ goes_on j ws p t
    unfolding goes_on
    goes_unlike z = rw (goes_on, ← e, lt-ltb u j.m inside, ← k, z) refl

    pub goes_by : h ≡ true → (r : Bool) → r ≡ equal_calls (get_or ws p 0) (get_or ws (j.n + u) 0) → r ≡ goes_on j ws p t
    unfolding goes_on
    goes_by z r w = w ∙ rw (goes_on, ← e, lt-ltb u j.m inside, ← k, z) refl

pub goes_back : (j : Job) (ws : List ℕ) (p t : ℕ) (b : Bool) → b ≡ goes_on j ws p t → b ≡ true → 1 ≤ t
unfolding goes_on
goes_back j ws p t b e z = before_some t j.m (ltb-true (before t j.m) j.m (and_left (ltb (before t j.m) j.m) _ (sym e ∙ z)))

-- ---- one row
module _ (x : Pass) (ws : List ℕ) where
  abbrev st : State
  st = state x.job ws

  module _ (p cap : ℕ) (c : RowBound x.job st p cap) (space : Space x.job ws) where
    pub bound_known : (last : List ℕ) (r : ℕ) → UpperFrom x.job ws (p + 1) → r ≡ told_by x ws last p (p + 1) cap → RowBound x.job st p r
    bound_known last r upper e = bound_told x.job ws p cap r c (told_tells x ws last p (p + 1) cap r space upper e)

    pub bound_found : (g : Found) → x.s ≤ cap → Reached (drop p st.pattern) st.text (x.s - 1) cap g → RowBound x.job st p g.len
    bound_found g h r = record { most = λ u. most u (dec_lt g.len cap); within = within (dec_lt (x.s - 1) g.len) }
      where
        most : (u : ℕ) → Dec (g.len < cap) → run_at st p u ≤ g.len
        most u (yes l) = r.most l u
        most u (no l) = omega (arith, c.most u, l)

        within : Dec (x.s - 1 < g.len) → p + g.len ≤ x.job.n
        within (yes l) =
            omega (arith, r.long l, run_within (drop p st.pattern) (drop g.t.0 st.text), length-drop p st.pattern, pattern_length x.job ws space, c.within)
        within (no l) = omega (arith, c.within, l, r.least)
