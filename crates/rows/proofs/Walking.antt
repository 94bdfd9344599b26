-- Walking the positions of a bucket. Where a run of s words or more begins, the walk does not step over it: the head of the bucket is not past
-- it, and neither is the link of a position before it. So what was found is the longest of the runs before t, or the floor.
-- Assumes nothing.
use Prim.Native.Nat.{ℕ, ◌+◌, ◌-◌, ◌≤◌, ◌<◌, min, max}
use native.Mathlib.Nat.{not-suc-le-zero}
use native.Mathlib.Decide.{dec_lt, dec_le, ℕ_discrete}
use native.Mathlib.Omega.{arith}
use mathlib.Core.Path.{◌≡◌, refl, sym, subst}
use mathlib.Core.Bool.{Bool, true, false, ◌&&◌}
use mathlib.Core.List.{List}
use borrow.Author.Tests.{leb-false}
use lib.Dec.{leb}
use lib.ListN.{drop, get_or, length-drop}
use Rattle.symbol.proofs.Sequence.{current_drop}
use Rattle.window.specs.Hash.{bucket}
use Rattle.tiling.specs.Run.{equal_run}
use Rattle.tiling.specs.Tiling.{run_at}
use Rattle.tiling.proofs.Run.{run_within}
use Rattle.tile.specs.declared.TextAt.{TextAt}
use Rattle.measure.specs.Block.{counted}
use Rattle.measure.proofs.Longer.{counted_longer, counted_most}
use Rattle.bounds.specs.Workspace.{Space, state}
use Rattle.sweep.specs.Row.{better, passed_over}
use Rattle.sweep.specs.declared.Found.{Found}
use Rattle.sweep.proofs.Row.{better_new, better_old}
use Rattle.sweep.proofs.Passed.{passed_shorter}
use Rattle.bounds.proofs.Workspace.{pattern_length, text_length}
use Rattle.index.specs.Indexed.{Indexed, pattern_hash, link}
use Rattle.index.specs.declared.pass.Pass.{Pass}
use Rattle.rows.specs.Reached.{Reached, Within, Begun, may_be_longer, after_run, visited}
use Rattle.rows.specs.declared.Walk.{Walk}
use Rattle.rows.proofs.Pairs.{not_longer}

-- What was found is the longest of the runs before t, and none before the position up to which the text is passed over is longer.
pub record Walked (x : Pass) (ws heads : List ℕ) (p t : ℕ) (w : Walk) : Type 0 where
  pub space : Space x.job ws
  pub row : p < x.job.n
  pub index : Indexed x ws heads
  pub least : x.s - 1 ≤ w.found.len
  pub order : w.ended ≤ w.found.len
  pub within : Within x p w
  pub repeated : w.again ≡ equal_run (drop p (state x.job ws).pattern) (drop 1 (drop p (state x.job ws).pattern))
  pub passed : (u : ℕ) → u < t → run_at (state x.job ws) p u ≤ w.found.len
  pub over : (u : ℕ) → u < w.past → run_at (state x.job ws) p u ≤ w.found.len
  pub long : x.s - 1 < w.found.len → run_at (state x.job ws) p w.found.t.0 ≡ w.found.len
  pub first : x.s - 1 < w.found.len → (u : ℕ) → u < w.found.t.0 → run_at (state x.job ws) p u < w.found.len
  pub here : t < x.job.m → index.linked (bucket x.buckets (pattern_hash x.job ws p)) t ≡ true

module _ (x : Pass) (ws heads : List ℕ) (p : ℕ) where
  abbrev ps : List ℕ
  ps = drop p (state x.job ws).pattern

  pub walk_none : (own b t : ℕ) (w : Walk) → Space x.job ws → Indexed x ws heads → p < x.job.n → Begun x ws p w → own ≡ pattern_hash x.job ws p → b ≡ bucket x.buckets own → b < 1024 → t ≡ get_or heads b 0 → Walked x ws heads p t w
  walk_none own b t w space index inside k e f small h =
      record {
        space = space;
        row = inside;
        index = index;
        least = omega (arith, k.floor);
        order = omega (arith, k.ended);
        within = record { low = omega (arith, k.floor, index.least); far = omega (arith, k.floor, index.least); inside = omega (arith, k.ended) };
        repeated = k.again;
        passed = λ u l. go u l (dec_le x.s (run_at (state x.job ws) p u));
        over = λ u l. absurd (not-suc-le-zero (rw k.past at l));
        long = λ l. absurd (omega (arith, k.floor));
        first = λ l. absurd (omega (arith, k.floor));
        here = λ l. rw h (rw (← own_bucket) (index.head_linked b small (rw h at l)));
      }
    where
      own_bucket : b ≡ bucket x.buckets (pattern_hash x.job ws p)
      own_bucket = rw (← e) f

      go : (u : ℕ) → u < t → Dec (x.s ≤ run_at (state x.job ws) p u) → run_at (state x.job ws) p u ≤ w.found.len
      go u l (yes m) = let g : get_or heads b 0 ≤ u = rw own_bucket (index.head p u m) in absurd (omega (arith, h))
      go u l (no m) = omega (arith, m, index.least, k.floor)

  module _ (a : TextAt) (w : Walk) (i : Walked x ws heads p a.0 w) (inside : a.0 < x.job.m) (t' : ℕ) (on : t' ≡ link x.job ws a.0) where
    abbrev t : ℕ
    t = a.0

    abbrev f : Found
    f = w.found

    -- Between a position and the next in its bucket no run of s words begins.
    between : (u : ℕ) → t < u → u < t' → run_at (state x.job ws) p u ≤ f.len
    between u l m = go (dec_le x.s (run_at (state x.job ws) p u))
      where
        go : Dec (x.s ≤ run_at (state x.job ws) p u) → run_at (state x.job ws) p u ≤ f.len
        go (yes n) = let g = i.index.next p u t n l (i.here inside) in absurd (omega (arith, on))
        go (no n) = omega (arith, n, i.least, i.index.least)

    passed : (n : ℕ) → f.len ≤ n → run_at (state x.job ws) p t ≤ n → (u : ℕ) → u < t' → run_at (state x.job ws) p u ≤ n
    passed n g m u l = go (dec_lt u t) (ℕ_discrete u t)
      where
        go : Dec (u < t) → Dec (u ≡ t) → run_at (state x.job ws) p u ≤ n
        go (yes b) d = omega (arith, i.passed u b)
        go (no b) (yes e) = rw e m
        go (no b) (no e) = omega (arith, between u (omega (arith, b, e)) l)

    here : t' < x.job.m → i.index.linked (bucket x.buckets (pattern_hash x.job ws p)) t' ≡ true
    here l = rw on (i.index.next_linked (bucket x.buckets (pattern_hash x.job ws p)) t inside (i.here inside) (rw on at l))

    -- Where the run here is no longer, nothing changes.
    walk_on : run_at (state x.job ws) p t ≤ f.len → Walked x ws heads p t' w
    walk_on h =
        record {
          space = i.space;
          row = i.row;
          index = i.index;
          least = i.least;
          order = i.order;
          within = i.within;
          repeated = i.repeated;
          passed = passed f.len (omega arith) h;
          over = i.over;
          long = i.long;
          first = i.first;
          here = here;
        }

    fits : run_at (state x.job ws) p t ≤ x.job.n - p
    fits = omega (arith, run_within ps (drop t (state x.job ws).text), length-drop p (state x.job ws).pattern, pattern_length x.job ws i.space)

    module _ (len : ℕ) (e : len ≡ counted f.len (run_at (state x.job ws) p t)) where
      longer : max f.len len ≡ max f.len (run_at (state x.job ws) p t)
      longer = rw e (counted_longer f.len (run_at (state x.job ws) p t))

      at_most : len ≤ run_at (state x.job ws) p t
      at_most = omega (arith, e, counted_most f.len (run_at (state x.job ws) p t))

      over : (n : ℕ) → f.len ≤ n → len ≤ n → run_at (state x.job ws) p t ≤ n → (u : ℕ) → u < t + 1 + passed_over w.again len → run_at (state x.job ws) p u ≤ n
      over n g k m u l = go (dec_lt u t) (ℕ_discrete u t)
        where
          go : Dec (u < t) → Dec (u ≡ t) → run_at (state x.job ws) p u ≤ n
          go (yes b) d = omega (arith, i.passed u b)
          go (no b) (yes q) = rw q m
          go (no b) (no q) = omega (arith, passed_shorter ps (state x.job ws).text (current_drop p _ i.space.current.of_pattern) w.again i.repeated t f.len len e (passed_over w.again len) refl u (omega (arith, b, q)) l)

      -- A run that was measured.
      walk_run : Walked x ws heads p t' (record { found = better f a len; ended = min len f.len; again = w.again; past = t + 1 + passed_over w.again len })
      walk_run = go (dec_lt f.len len)
        where
          go : Dec (f.len < len) → Walked x ws heads p t' (record { found = better f a len; ended = min len f.len; again = w.again; past = t + 1 + passed_over w.again len })
          go (yes l) =
              subst (λ g. Walked x ws heads p t' (record { found = g; ended = min len f.len; again = w.again; past = t + 1 + passed_over w.again len })) (better_new f a len l)
              (record {
                space = i.space;
                row = i.row;
                index = i.index;
                least = omega (arith, i.least);
                order = omega arith;
                within = record { low = omega (arith, i.within.low); far = omega (arith, longer, fits, i.index.least, i.row); inside = omega (arith, longer, fits, i.row) };
                repeated = i.repeated;
                passed = passed len (omega arith) (omega (arith, longer));
                over = over len (omega arith) (omega arith) (omega (arith, longer));
                long = λ m. omega (arith, longer);
                first = λ m u b. omega (arith, i.passed u b);
                here = here;
              })
          go (no l) =
              subst (λ g. Walked x ws heads p t' (record { found = g; ended = min len f.len; again = w.again; past = t + 1 + passed_over w.again len })) (better_old f a len (omega (arith, l)))
              (record {
                space = i.space;
                row = i.row;
                index = i.index;
                least = i.least;
                order = omega arith;
                within = record { low = i.within.low; far = i.within.far; inside = omega (arith, at_most, fits, i.row) };
                repeated = i.repeated;
                passed = passed f.len (omega arith) (omega (arith, l, longer));
                over = over f.len (omega arith) (omega (arith, l)) (omega (arith, l, longer));
                long = i.long;
                first = i.first;
                here = here;
              })

    walk_visited : Walked x ws heads p t' (visited x ws p a w)
    unfolding visited after_run
    walk_visited = go (leb w.past t) (may_be_longer x ws p t w) refl refl
      where
        go : (b c : Bool) → leb w.past t ≡ b → may_be_longer x ws p t w ≡ c → Walked x ws heads p t' (elim (b && c) [ true ↦ after_run w a (counted f.len (run_at (state x.job ws) p t)) | false ↦ w ])
        go true true eb ec = walk_run (counted f.len (run_at (state x.job ws) p t)) refl
        go true false eb ec = walk_on (not_longer x ws p t w i.space i.index.kin i.within.low i.order ec)
        go false c eb ec = walk_on (i.over t (leb-false w.past t eb))

    pub walk_more : (v : Walk) → v ≡ visited x ws p a w → Walked x ws heads p t' v
    walk_more v e = subst (λ y. Walked x ws heads p t' y) (sym e) walk_visited

  -- What is left of the text has no longer run.
  pub walk_end : (cap t : ℕ) (w : Walk) → Walked x ws heads p t w → x.job.m - t ≤ w.found.len → Reached ps (state x.job ws).text (x.s - 1) cap w.found
  walk_end cap t w i h = record { least = i.least; most = λ l u. go u (dec_lt u t); long = i.long; first = i.first }
    where
      go : (u : ℕ) → Dec (u < t) → run_at (state x.job ws) p u ≤ w.found.len
      go u (yes l) = i.passed u l
      go u (no l) = omega (arith, l, run_within ps (drop u (state x.job ws).text), length-drop u (state x.job ws).text, text_length x.job ws i.space)

  pub walk_past : (cap t : ℕ) (w : Walk) → Walked x ws heads p t w → x.job.m ≤ t → Reached ps (state x.job ws).text (x.s - 1) cap w.found
  walk_past cap t w i h = walk_end cap t w i (omega arith)
