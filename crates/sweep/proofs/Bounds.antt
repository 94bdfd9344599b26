-- The bounds of the rows, from the last to the first. A run is at most one word longer than the run one position on, so the bound of a row is
-- at most one more than that of the row after it; and none begins where the pattern has no call.
-- Assumes nothing.
use Prim.Native.Nat.{ℕ, zero, suc, ◌+◌, ◌-◌, ◌≤◌, ◌<◌}
use native.Mathlib.Decide.{dec_lt, ℕ_discrete}
use native.Mathlib.Omega.{arith}
use mathlib.Core.Path.{◌≡◌, refl, sym, ◌∙◌, ap, subst}
use mathlib.Core.Bool.{Bool, false}
use mathlib.Core.List.{List}
use lib.ListN.{length, drop, get_or, set, length-set}
use lib.Seq.{get_or-drop, get_or-take, get_or-set_same, get_or-set_other}
use Rattle.symbol.specs.Word.{is_call}
use Rattle.symbol.proofs.Retired.{no_match_left}
use Rattle.tiling.specs.Tiling.{State, run_at}
use Rattle.tiling.proofs.Run.{zero_left, run_match, run_least, run_most}
use Rattle.tiling.proofs.Best.{past_pattern}
use Rattle.chain.specs.Chain.{Free}
use Rattle.chain.specs.Stretches.{StretchBefore}
use Rattle.bounds.specs.Workspace.{Space, state, bounds_from, bound}
use Rattle.sweep.specs.Progress.{UpperFrom, RowBound, NextRows, FilledFrom, Filled}
use Rattle.bounds.specs.declared.Job.{Job}
use Rattle.bounds.proofs.Workspace.{state_set, space_bound, pattern_length}

-- A row whose first word is marked has no run.
pub marked_row : (s : State) (q t : ℕ) → get_or s.pattern q 0 ≡ 0 → run_at s q t ≡ 0
marked_row s q t e =
    let at : q + 0 ≡ q = omega arith in
    let first : get_or (drop q s.pattern) 0 0 ≡ 0 = get_or-drop q s.pattern 0 0 ∙ (ap (λ k. get_or s.pattern k 0) at ∙ e) in
    omega (arith, run_most (drop q s.pattern) (drop t s.text) 0 (rw first (zero_left (get_or (drop t s.text) 0 0))))

-- From d words on, what is left of a run.
pub run_further : (s : State) (p t d n : ℕ) → d + n ≤ run_at s p t → n ≤ run_at s (p + d) (t + d)
run_further s p t d n h =
    run_least (drop (p + d) s.pattern) (drop (t + d) s.text) n
    (λ i k.
    let m = run_match (drop p s.pattern) (drop t s.text) (d + i) (omega arith) in
    let a : p + d + i ≡ p + (d + i) = omega arith in
    let b : t + d + i ≡ t + (d + i) = omega arith in
    rw (get_or-drop (p + d) s.pattern i 0, get_or-drop (t + d) s.text i 0, a, b, ← get_or-drop p s.pattern (d + i) 0, ← get_or-drop t s.text (d + i) 0)
    m)

-- ---- one row
module _ (j : Job) (ws : List ℕ) where
  abbrev st : State
  st = state j ws

  -- Where the pattern has no call.
  pub bound_no_call : (p : ℕ) (b : Bool) → p < j.n → b ≡ is_call (get_or ws p 0) → b ≡ false → RowBound j st p 0
  bound_no_call p b h e z =
      record {
        most =
            λ u.
            run_most (drop p st.pattern) (drop u st.text) 0
            (no_match_left _ (get_or (drop u st.text) 0 0)
            (rw (get_or-drop p st.pattern 0 0, at, get_or-take j.n ws p 0 h) (sym e ∙ z)));
        within = omega arith;
      }
    where
      at : p + 0 ≡ p
      at = omega arith

  -- One word more than the row after.
  pub bound_more : (p len : ℕ) → RowBound j st (p + 1) len → RowBound j st p (len + 1)
  bound_more p len c = record { most = λ u. step u (run_at st p u) refl; within = omega (arith, c.within) }
    where
      step : (u r : ℕ) → r ≡ run_at st p u → r ≤ len + 1
      step u zero e = omega arith
      step u (suc r) e = omega (arith, c.most (u + 1), run_further st p u 1 r (omega (arith, e)))

-- ---- the rows of a stretch, from the last to the first
pub record Filling (j : Job) (ws₀ ws : List ℕ) (from p after : ℕ) : Type 0 where
  pub least : from ≤ p
  pub within : p ≤ j.n
  pub space : Space j ws
  pub same_room : length ws ≡ length ws₀
  pub same : state j ws ≡ state j ws₀
  pub row : RowBound j (state j ws) p after
  pub upper : UpperFrom j ws p

pub filling_none : (j : Job) (ws : List ℕ) (from to : ℕ) → Space j ws → NextRows j ws from to → Filling j ws ws from to 0
filling_none j ws from to space next =
    record {
      least = next.ordered;
      within = next.within;
      space = space;
      same_room = refl;
      same = refl;
      row = next.none;
      upper = next.upper;
    }

module _ (j : Job) (ws₀ ws : List ℕ) (from p after : ℕ) (i : Filling j ws₀ ws from p after) where
  pub before_inside : from < p → p - 1 < j.n
  before_inside h = omega (arith, i.within)

  module _ (to : ℕ) (next : NextRows j ws₀ from to) (above : from < p) (below : p ≤ to) (len : ℕ) (c : RowBound j (state j ws) (p - 1) len) where
    abbrev stored : List ℕ
    stored = set ws (bounds_from j + (p - 1)) len

    at_row : bound j stored (p - 1) ≡ len
    at_row = get_or-set_same ws (bounds_from j + (p - 1)) len 0 (omega (arith, i.space.roomy, i.within))

    elsewhere : (q : ℕ) → (q ≡ p - 1 → ⊥) → bound j stored q ≡ bound j ws q
    elsewhere q d = get_or-set_other ws (bounds_from j + (p - 1)) (bounds_from j + q) len 0 (λ e. d (omega arith))

    unmoved : state j stored ≡ state j ws
    unmoved = state_set j ws (p - 1) len

    free : Free ws (p - 1)
    free z =
        next.free (p - 1) (omega arith) (omega arith)
        (ap (λ (u : State). get_or u.pattern (p - 1) 0) (sym i.same) ∙ (get_or-take j.n ws (p - 1) 0 (omega (arith, i.within)) ∙ z))

    upper : (q t : ℕ) → p - 1 ≤ q → q < j.n → Dec (q ≡ p - 1) → run_at (state j ws) q t ≤ bound j stored q
    upper q t h l (yes e) = rw e (omega (arith, at_row, c.most t))
    upper q t h l (no d) = omega (arith, elsewhere q d, i.upper q t (omega (arith, d)) l)

    pub filling_more : (ws' : List ℕ) → ws' ≡ set ws (bounds_from j + (p - 1)) len → Filling j ws₀ ws' from (p - 1) len
    filling_more ws' e =
        subst (λ y. Filling j ws₀ y from (p - 1) len) (sym e)
        (record {
          least = omega arith;
          within = omega (arith, i.within);
          space = space_bound j ws (p - 1) len (omega (arith, i.within)) free i.space;
          same_room = length-set ws (bounds_from j + (p - 1)) len ∙ i.same_room;
          same = unmoved ∙ i.same;
          row = subst (λ (u : State). RowBound j u (p - 1) len) (sym unmoved) c;
          upper = λ q t h l. subst (λ (u : State). run_at u q t ≤ bound j stored q) (sym unmoved) (upper q t h l (ℕ_discrete q (p - 1)));
        })

  pub filling_all : p ≤ from → FilledFrom j ws₀ ws from
  filling_all z =
      let e : p ≡ from = omega (arith, i.least) in
      record { same = i.same; space = i.space; upper = rw e at i.upper }

-- ---- the stretches, from the last to the first
-- Rows that are covered have no run; so where the bounds from e on are filled, and e is the end of the pattern or the word before it is
-- covered, the last stretch before e is next.
module _ (j : Job) (ws : List ℕ) (space : Space j ws) (e from to : ℕ) (inside : e ≤ j.n) (upper : UpperFrom j ws e) (edge : e < j.n → 0 < e → Free (state j ws).pattern (e - 1) → ⊥) (r : StretchBefore (state j ws).pattern e from to) where
  covered_row : (q t : ℕ) → to ≤ q → q < e → run_at (state j ws) q t ≡ 0
  covered_row q t h l = go (ℕ_discrete (get_or (state j ws).pattern q 0) 0)
    where
      go : Dec (get_or (state j ws).pattern q 0 ≡ 0) → run_at (state j ws) q t ≡ 0
      go (yes z) = marked_row (state j ws) q t z
      go (no d) = absurd (r.past q h l d)

  no_run : (u : ℕ) → Dec (to < e) → Dec (e < j.n) → 0 < to → run_at (state j ws) to u ≤ 0
  no_run u (yes h) d z = omega (arith, covered_row to u (omega arith) h)
  no_run u (no h) (yes l) z =
      let same : to ≡ e = omega (arith, h, r.within) in
      absurd (edge l (omega arith) (subst (λ k. Free (state j ws).pattern (k - 1)) same (r.free (to - 1) (omega (arith, r.some z)) (omega arith))))
  no_run u (no h) (no l) z = omega (arith, past_pattern (state j ws) to u (omega (arith, h, l, pattern_length j ws space)))

  later : (q t : ℕ) → to ≤ q → q < j.n → Dec (q < e) → run_at (state j ws) q t ≤ bound j ws q
  later q t h l (yes m) = omega (arith, covered_row q t h m)
  later q t h l (no m) = upper q t (omega (arith, m)) l

  pub rows_next : 0 < to → NextRows j ws from to
  rows_next z =
      record {
        ordered = r.ordered;
        within = omega (arith, r.within);
        free = r.free;
        none = record { most = λ u. no_run u (dec_lt to e) (dec_lt e j.n) z; within = omega (arith, r.within) };
        upper = λ q t h l. later q t h l (dec_lt q e);
      }

  pub rows_done : to ≤ 0 → (q t : ℕ) → q < j.n → run_at (state j ws) q t ≤ bound j ws q
  rows_done z q t l = later q t (omega arith) l (dec_lt q e)

-- The loop over stretches: the one that is next, and the covered word before it.
pub record Stretching (j : Job) (ws₀ ws : List ℕ) (from to : ℕ) : Type 0 where
  pub end : ℕ
  pub inside : end ≤ j.n
  pub same_room : length ws ≡ length ws₀
  pub same : state j ws ≡ state j ws₀
  pub space : Space j ws
  pub upper : UpperFrom j ws end
  pub edge : end < j.n → 0 < end → Free (state j ws).pattern (end - 1) → ⊥
  pub last : StretchBefore (state j ws).pattern end from to

pub stretching_none : (j : Job) (ws : List ℕ) (end from to : ℕ) → Space j ws → end ≡ j.n → StretchBefore (state j ws).pattern end from to → Stretching j ws ws from to
stretching_none j ws end from to space e r =
    record {
      end = end;
      inside = omega arith;
      same_room = refl;
      same = refl;
      space = space;
      upper = λ q t h l. absurd (omega arith);
      edge = λ l. absurd (omega arith);
      last = r;
    }

module _ (j : Job) (ws₀ ws : List ℕ) (from to : ℕ) (i : Stretching j ws₀ ws from to) where
  pub stretching_next : 0 < to → NextRows j ws from to
  stretching_next z = rows_next j ws i.space i.end from to i.inside i.upper i.edge i.last z

  pub stretching_within : from ≤ j.n
  stretching_within = omega (arith, i.last.ordered, i.last.within, i.inside)

  pub stretching_more : 0 < to → (ws' : List ℕ) → length ws' ≡ length ws → FilledFrom j ws ws' from → (from' to' : ℕ) → StretchBefore (state j ws').pattern from from' to' → Stretching j ws₀ ws' from' to'
  stretching_more z ws' room f from' to' r =
      record {
        end = from;
        inside = stretching_within;
        same_room = room ∙ i.same_room;
        same = f.same ∙ i.same;
        space = f.space;
        upper = f.upper;
        edge = λ l h free. i.last.edge h (subst (λ (u : State). Free u.pattern (from - 1)) f.same free);
        last = r;
      }

  pub stretching_all : to ≤ 0 → Filled j ws₀ ws
  stretching_all z =
      record {
        same = i.same;
        space = i.space;
        upper = rows_done j ws i.space i.end from to i.inside i.upper i.edge i.last z;
      }
