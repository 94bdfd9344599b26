-- The pattern's windows, stretch by stretch and each stretch from right to left. No window is free that has a marked word, so between two stretches
-- there is none to enter, and in a stretch they are those that end in it. Hashing a stretch changes no hash of a window behind it.
-- Assumes nothing.
use Prim.Native.Nat.{ℕ, ◌+◌, ◌-◌, ◌≤◌, ◌<◌}
use native.Mathlib.Decide.{dec_lt, ℕ_discrete}
use native.Mathlib.Omega.{arith}
use mathlib.Core.Path.{◌≡◌, refl, sym, ◌∙◌, ap, subst}
use mathlib.Core.Bool.{Bool, true, false, ◌&&◌}
use mathlib.Core.List.{List}
use borrow.Author.Tests.{eq-eqb, ne_eqb}
use lib.Dec.{leb, eqb}
use lib.ListN.{length, drop, get_or, set, replicate, get_or-replicate}
use lib.Seq.{get_or-set_same, get_or-set_other}
use Rattle.tiling.specs.Stretch.{free_first}
use Rattle.tiling.specs.Tiling.{State}
use Rattle.window.specs.HashList.{hash_at}
use Rattle.chain.specs.Stretches.{StretchBefore}
use Rattle.bounds.specs.Workspace.{Space, state}
use Rattle.bounds.specs.declared.Job.{Job}
use Rattle.bounds.proofs.Workspace.{pattern_length}
use Rattle.index.specs.Indexed.{pattern_hash, slot}
use Rattle.index.specs.Built.{AllFree, free_row, raises, raised_from, entry_of, PartHashed, Stretched, RaisedFrom, RowsFrom}
use Rattle.index.specs.declared.pass.Pass.{Pass}
use Rattle.index.proofs.First.{some_none, some_here, some_later, some_same, some_skip}
use Rattle.index.proofs.Free.{Busy, busy_by, not_free, test_busy, test_free}
use Rattle.index.proofs.Parts.{part_state, part_space, pattern_hashes}
use Rattle.index.proofs.Stretches.{Walk, walk_first, walk_here, busy_between, end_marked}

-- ---- the entries of a stretch
pub record Raising (x : Pass) (ws fs : List ℕ) (from p : ℕ) : Type 0 where
  pub low : from ≤ p
  pub raised : RaisedFrom x ws fs p

module _ (x : Pass) (ws fs : List ℕ) (from p : ℕ) (r : Raising x ws fs from p) where
  pub raising_more : from < p → Space x.job ws → (to : ℕ) → p ≤ to → ((q : ℕ) → from ≤ q → q < to → AllFree x.s (state x.job ws).pattern q) → (h k : ℕ) (fs' : List ℕ) → h ≡ pattern_hash x.job ws (p - 1) → k ≡ slot h → k < length fs → fs' ≡ set fs k 1 → Raising x ws fs' from (p - 1)
  raising_more above space to high free h k fs' eh ek room ef =
      record {
        low = omega arith;
        raised = record { within = omega (arith, r.raised.within); entries = λ i l. entries i l (ℕ_discrete i k) };
      }
    where
      back : p - 1 + 1 ≡ p
      back = omega arith

      at : slot (pattern_hash x.job ws (p - 1)) ≡ k
      at = ap slot (sym eh) ∙ sym ek

      is_free : free_row x ws (p - 1) ≡ true
      is_free = test_free x.s (state x.job ws).pattern (p - 1) (free (p - 1) (omega arith) (omega (arith, high)))

      inside : p - 1 < x.job.n
      inside = omega (arith, r.raised.within)

      entries : (i : ℕ) → i < 4096 → Dec (i ≡ k) → get_or fs' i 0 ≡ entry_of (raised_from x ws i (p - 1)) false
      entries i l (yes e) =
          let yes-here : raises x ws k (p - 1) ≡ true = rw (is_free, eq-eqb (slot (pattern_hash x.job ws (p - 1))) k at) refl in
          rw (e, some_here (raises x ws k) (p - 1) x.job.n inside space.short_pattern yes-here, ef) (get_or-set_same fs k 1 0 room)
      entries i l (no d) =
          let not_here : raises x ws i (p - 1) ≡ false = rw (is_free, ne_eqb (slot (pattern_hash x.job ws (p - 1))) i (λ z. d (sym z ∙ at))) refl in
          rw (some_later (raises x ws i) (p - 1) x.job.n inside not_here, back, ef)
          (get_or-set_other fs k i 1 0 d ∙ r.raised.entries i l)

-- ---- windows with a marked word are passed over
raised_skip : (x : Pass) (ws fs : List ℕ) (a b : ℕ) → a ≤ b → ((q : ℕ) → a ≤ q → q < b → Busy x.s (state x.job ws).pattern q) → RaisedFrom x ws fs b → RaisedFrom x ws fs a
raised_skip x ws fs a b low busy r =
    record {
      within = omega (arith, r.within);
      entries = λ i l.
          r.entries i l
          ∙ ap (λ z. entry_of z false)
          (sym
          (some_skip (raises x ws i) x.job.n a b low r.within
          (λ q k m. rw (test_busy x.s (state x.job ws).pattern q (busy q k m)) refl)));
    }

rows_skip : (x : Pass) (ws fs : List ℕ) (a b : ℕ) → a ≤ b → ((q : ℕ) → a ≤ q → q < b → Busy x.s (state x.job ws).pattern q) → RowsFrom x ws fs b → RowsFrom x ws fs a
rows_skip x ws fs a b low busy r =
    record { space = r.space; hashed = λ q k free. go q k free (dec_lt q b); raised = raised_skip x ws fs a b low busy r.raised }
  where
    go : (q : ℕ) → a ≤ q → AllFree x.s (state x.job ws).pattern q → Dec (q < b) → pattern_hash x.job ws q ≡ hash_at x.multiplier x.s (state x.job ws).pattern q
    go q k free (yes l) = absurd (not_free x.s (state x.job ws).pattern q (busy q k l) free)
    go q k free (no l) = r.hashed q (omega (arith, l)) free

-- ---- one stretch
-- It may be too short for a window.
pub rows_short : (x : Pass) (ws fs : List ℕ) (from to : ℕ) → from ≤ to → (0 < to → Stretched (state x.job ws).pattern from to) → RowsFrom x ws fs to → to - from < x.s → RowsFrom x ws fs from
rows_short x ws fs from to ordered st r short = go (dec_lt 0 to)
  where
    go : Dec (0 < to) → RowsFrom x ws fs from
    go (yes some) =
        rows_skip x ws fs from to ordered
        (λ q k l. busy_by x.s (state x.job ws).pattern q to (omega arith) (omega (arith, (st some).some)) (st some).closed)
        r
    go (no none) = let e : from ≡ to = omega (arith, none) in rw e r

module _ (x : Pass) (ws fs : List ℕ) (from to : ℕ) (st : Stretched (state x.job ws).pattern from to) (r : RowsFrom x ws fs to) where
  abbrev j : Job
  j = x.job

  abbrev s : ℕ
  s = x.s

  inside : to ≤ j.n
  inside = omega (arith, st.within, pattern_length j ws r.space)

  module _ (long : s ≤ to - from) (ws' : List ℕ) (h : PartHashed x from (to - from) ws ws') where
    fits : from + (to - from) ≤ j.n + j.m
    fits = omega (arith, inside, st.some)

    pub rows_state : state j ws' ≡ state j ws
    rows_state = part_state x from (to - from) ws ws' h r.space fits

    pub rows_space : Space j ws'
    rows_space = part_space x from (to - from) ws ws' h r.space fits

    pub rows_room : from ≤ to + 1 - s
    rows_room = omega (arith, st.some)

    pub rows_free : (q : ℕ) → from ≤ q → q < to + 1 - s → AllFree s (state j ws').pattern q
    rows_free q k l = subst (λ (z : State). AllFree s z.pattern q) (sym rows_state) (λ i m. st.free (q + i) (omega arith) (omega (arith, x.one)))

    -- The windows that reach past the stretch are not free.
    reaching : (q : ℕ) → to + 1 - s ≤ q → q < to → Busy s (state j ws').pattern q
    reaching q k l = subst (λ (z : State). Busy s z.pattern q) (sym rows_state) (busy_by s (state j ws).pattern q to (omega arith) (omega arith) st.closed)

    kept : (q : ℕ) → to ≤ q → pattern_hash j ws' q ≡ pattern_hash j ws q
    kept q l = h.after (j.n + j.m + q) (omega (arith, st.some, x.one))

    pub rows_raised : RaisedFrom x ws' fs (to + 1 - s)
    rows_raised =
        raised_skip x ws' fs (to + 1 - s) to (omega (arith, x.one)) reaching
        (record {
          within = inside;
          entries = λ i l.
              r.raised.entries i l
              ∙ ap (λ z. entry_of z false)
              (some_same (raises x ws i) (raises x ws' i) to (j.n - to)
              (λ q k m. ap (λ (z : State). free_in z q && eqb (slot (pattern_hash j ws q)) i) (sym rows_state) ∙ rw (kept q k) refl));
        })
      where
        free_in : State → ℕ → Bool
        free_in z q = leb x.s (free_first (drop q z.pattern))

    pub same_rows : (x' : Pass) → x' ≡ x → state x'.job ws' ≡ state j ws
    same_rows x' e = rw e rows_state

    entered : (fs' : List ℕ) → RaisedFrom x ws' fs' from → RowsFrom x ws' fs' from
    entered fs' raised = record { space = rows_space; hashed = λ q k free. go q k free (dec_lt q (to + 1 - s)) (dec_lt q to); raised = raised }
      where
        new : (q : ℕ) → from ≤ q → q < to + 1 - s → pattern_hash j ws' q ≡ hash_at x.multiplier s (state j ws).pattern q
        new q k l =
            let e : from + (q - from) ≡ q = omega arith in
            let there = h.hashed (q - from) (omega arith) in
            rw e at there ∙ pattern_hashes x ws r.space q (omega (arith, inside))

        as_new : (q : ℕ) → pattern_hash j ws' q ≡ hash_at x.multiplier s (state j ws).pattern q → pattern_hash j ws' q ≡ hash_at x.multiplier s (state j ws').pattern q
        as_new q e = e ∙ ap (λ (z : State). hash_at x.multiplier s z.pattern q) (sym rows_state)

        go : (q : ℕ) → from ≤ q → AllFree s (state j ws').pattern q → Dec (q < to + 1 - s) → Dec (q < to) → pattern_hash j ws' q ≡ hash_at x.multiplier s (state j ws').pattern q
        go q k free (yes l) d = as_new q (new q k l)
        go q k free (no l) (yes d) = absurd (not_free s (state j ws').pattern q (reaching q (omega (arith, l)) d) free)
        go q k free (no l) (no d) =
            as_new q
            (kept q (omega (arith, d))
            ∙ r.hashed q (omega (arith, d)) (subst (λ (z : State). AllFree s z.pattern q) rows_state free))

    pub rows_entered : (x' : Pass) → x' ≡ x → (fs' : List ℕ) → RaisedFrom x ws' fs' from → RowsFrom x' ws' fs' from
    rows_entered x' e fs' raised = rw e (entered fs' raised)

-- ---- stretch by stretch
pub record RowWalk (x : Pass) (before : State) (ws fs : List ℕ) (end : ℕ) : Type 0 where
  pub same : state x.job ws ≡ before
  pub walk : Walk (state x.job ws).pattern end
  pub rows : RowsFrom x ws fs end

none_raised : (x : Pass) (ws fs : List ℕ) → Space x.job ws → fs ≡ replicate 4096 0 → RaisedFrom x ws fs x.job.n
none_raised x ws fs space fresh =
    record {
      within = omega arith;
      entries = λ i l. rw (some_none (raises x ws i) x.job.n, fresh) (get_or-replicate {A = ℕ} 4096 i 0 0 l);
    }

none_rows : (x : Pass) (ws fs : List ℕ) → Space x.job ws → fs ≡ replicate 4096 0 → RowsFrom x ws fs x.job.n
none_rows x ws fs space fresh =
    record {
      space = space;
      hashed = λ q k free. absurd (not_free x.s (state x.job ws).pattern q (past q k) free);
      raised = none_raised x ws fs space fresh;
    }
  where
    past : (q : ℕ) → x.job.n ≤ q → Busy x.s (state x.job ws).pattern q
    past q k = busy_by x.s (state x.job ws).pattern q q (omega arith) (omega (arith, x.one)) (end_marked (state x.job ws).pattern q (omega (arith, pattern_length x.job ws space)))

pub row_walk_first : (x : Pass) (ws fs : List ℕ) → Space x.job ws → fs ≡ replicate 4096 0 → RowWalk x (state x.job ws) ws fs x.job.n
row_walk_first x ws fs space fresh =
    record {
      same = refl;
      walk = walk_first (state x.job ws).pattern x.job.n (sym (pattern_length x.job ws space));
      rows = none_rows x ws fs space fresh;
    }

module _ (x : Pass) (before : State) (ws fs : List ℕ) (end : ℕ) (w : RowWalk x before ws fs end) (from to : ℕ) (b : StretchBefore (state x.job ws).pattern end from to) where
  pub row_walk_here : 0 < to → Stretched (state x.job ws).pattern from to
  row_walk_here = walk_here (state x.job ws).pattern end from to w.walk b

  pub row_walk_rows : RowsFrom x ws fs to
  row_walk_rows = rows_skip x ws fs to end b.within (busy_between x.s (state x.job ws).pattern end from to x.one b) w.rows
