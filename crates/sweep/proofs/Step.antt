-- One row of a sweep. The bounds are never too low, since runs only shrink. So where a row has a run of the level's length, no run is
-- longer and no row before has one as long: it is the best tile, and laying it keeps the sweep's invariant. Where it has none, its bound
-- falls below the level.
-- Assumes nothing.
use Prim.Native.Nat.{ℕ, ◌+◌, ◌*◌, ◌/◌, ◌≤◌, ◌<◌}
use native.Mathlib.Nat.{add-mul, one-mul, mul-one, mul-le-mul_left, le-div_iff_mul-le}
use native.Mathlib.Decide.{dec_lt, ℕ_discrete}
use native.Mathlib.Omega.{arith}
use mathlib.Core.Path.{◌≡◌, refl, sym, ◌∙◌, ap, subst}
use mathlib.Core.Bool.{Bool, true, false}
use mathlib.Core.List.{List, [], ◌∷◌, ◌++◌, map, append_assoc, map-append}
use lib.ListN.{length, take, set, length-append, length-map}
use lib.Seq.{get_or-set_same, get_or-set_other}
use Rattle.symbol.specs.Word.{is_call}
use Rattle.buffer.specs.Buffer.{onto}
use Rattle.tiling.specs.Tiling.{Tile, State, run_at, best, Best, Lies, size, on_pattern, lay}
use Rattle.tiling.specs.Listing.{tile_words, covered}
use Rattle.tiling.specs.Stretch.{fillable}
use Rattle.tiling.proofs.Run.{not_zero_left, not_zero_right, mark_inside}
use Rattle.tiling.proofs.Until.{until_goes}
use Rattle.tiling.specs.Tally.{tally}
use Rattle.tiling.specs.Greedy.{Greedy, more}
use Rattle.tiling.proofs.Best.{best_is, best_only, past_pattern}
use Rattle.tiling.proofs.Marked.{lay_shrinks}
use Rattle.tiling.proofs.Tiling.{best_lies, zero_no_call, takes_tile}
use Rattle.tile.specs.Listed.{listed}
use Rattle.stretch.specs.Sides.{OnFree}
use Rattle.tiling.proofs.Demand.{covered_append}
use Rattle.tile.proofs.Tail.{length_listed, listed_more}
use Rattle.chain.specs.Chain.{Free}
use Rattle.bounds.specs.Workspace.{Space, state, bounds_from, bound, laid}
use Rattle.sweep.specs.Goal.{stops_at, at_goal, stopped, until_goal}
use Rattle.sweep.specs.Settled.{pick, one_more, laid_totals}
use Rattle.sweep.specs.Progress.{Fits, far, Laid, Onward, Bounded, Sweeping, Searched}
use Rattle.bounds.specs.Blocks.{Falling}
use Rattle.bounds.specs.declared.Job.{Job}
use Rattle.sweep.specs.declared.Found.{Found}
use Rattle.sweep.specs.declared.Totals.{Totals}
use Rattle.sweep.proofs.Bounds.{marked_row}
use Rattle.bounds.proofs.Workspace.{state_set, state_laid, space_bound, space_laid, pattern_length, text_length, bound_covered, bound_before, bound_after}

-- No run exceeds the level.
pub below_level : (j : Job) (ws : List ℕ) (level p : ℕ) → Space j ws → Bounded j ws level p → (q t : ℕ) → run_at (state j ws) q t ≤ level
below_level j ws level p s b q t = go (dec_lt q j.n)
  where
    go : Dec (q < j.n) → run_at (state j ws) q t ≤ level
    go (yes h) = omega (arith, b.upper q t h, b.capped q h)
    go (no h) = omega (arith, past_pattern (state j ws) q t (omega (arith, h, pattern_length j ws s)))

-- The goal by the record is the goal by how far the comparison has come.
pub goal_is : (j : Job) (ws b : List ℕ) (k : Totals) → Fits j ws b k → at_goal k ≡ stopped k.goal j.minimum (far j ws k)
unfolding at_goal stopped
goal_is j ws b k f = ap (λ n. stops_at k.goal k.covered n) f.left

module _ (j : Job) (level p : ℕ) (ws b : List ℕ) (k : Totals) (f : Found) (s : Sweeping j level p ws b k) (inside : p < j.n) (full-row : bound j ws p ≡ level) (r : Searched j ws level p f) where
  -- It has a bound, so it is free.
  free_row_lem : Free ws p
  free_row_lem z = omega (arith, s.fits.space.covered p inside z, s.long, s.fits.least)

  -- ---- a shorter run is the row's new bound
  module _ (short : f.len ≡ level → ⊥) where
    lowered : Sweeping j level (p + 1) (set ws (bounds_from j + p) f.len) b k
    lowered =
        record {
          fits =
              record {
                space = space_bound j ws p f.len inside free_row_lem s.fits.space;
                least = s.fits.least;
                most = s.fits.most;
                tile_room = s.fits.tile_room;
                each = s.fits.each;
                free = rw (ap (λ (u : State). u.pattern) (state_set j ws p f.len)) s.fits.free;
                left = s.fits.left ∙ ap (λ (u : State). fillable j.minimum u.pattern) (sym (state_set j ws p f.len));
              };
          bounded =
              record {
                upper = λ q t h. subst (λ u. run_at u q t ≤ bound j (set ws (bounds_from j + p) f.len) q) (sym (state_set j ws p f.len)) (upper q t h (ℕ_discrete q p));
                capped = λ q h. capped q h (ℕ_discrete q p);
                passed = λ q h. passed q h (ℕ_discrete q p);
              };
          long = s.long;
          within = omega arith;
        }
      where
        here : bound j (set ws (bounds_from j + p) f.len) p ≡ f.len
        here = get_or-set_same ws (bounds_from j + p) f.len 0 (omega (arith, s.fits.space.roomy))

        there : (q : ℕ) → (q ≡ p → ⊥) → bound j (set ws (bounds_from j + p) f.len) q ≡ bound j ws q
        there q d = get_or-set_other ws (bounds_from j + p) (bounds_from j + q) f.len 0 (λ e. d (omega arith))

        upper : (q t : ℕ) → q < j.n → Dec (q ≡ p) → run_at (state j ws) q t ≤ bound j (set ws (bounds_from j + p) f.len) q
        upper q t h (yes e) = rw e (omega (arith, here, r.most t))
        upper q t h (no d) = omega (arith, there q d, s.bounded.upper q t h)

        capped : (q : ℕ) → q < j.n → Dec (q ≡ p) → bound j (set ws (bounds_from j + p) f.len) q ≤ level
        capped q h (yes e) = rw e (omega (arith, here, r.within))
        capped q h (no d) = omega (arith, there q d, s.bounded.capped q h)

        passed : (q : ℕ) → q < p + 1 → Dec (q ≡ p) → bound j (set ws (bounds_from j + p) f.len) q < level
        passed q h (yes e) = rw e (omega (arith, here, r.within, short))
        passed q h (no d) = omega (arith, there q d, s.bounded.passed q (omega (arith, d)))

    lowered_onward : Onward j ws b k (set ws (bounds_from j + p) f.len) b k
    lowered_onward =
        record {
          keeps = λ s₀ b₀ l.
              record {
                tiles = l.tiles;
                rest = λ ls g. l.rest ls (rw (state_set j ws p f.len) at g);
                going = λ ls. l.going ls ∙ ap (λ (u : State). l.tiles ++ until_goal k.goal j.minimum (record { covered = k.covered; pattern = u.pattern }) ls) (sym (state_set j ws p f.len));
                held = l.held;
                counted = l.counted;
                summed = l.summed;
              };
          aim = refl;
        }

    -- The same of a workspace that was made so.
    module _ (ws' : List ℕ) (w : ws' ≡ set ws (bounds_from j + p) f.len) where
      pub lowered_sweep : Sweeping j level (p + 1) ws' b k
      lowered_sweep = subst (λ x. Sweeping j level (p + 1) x b k) (sym w) lowered

      pub lowered_lays : Onward j ws b k ws' b k
      lowered_lays = subst (λ x. Onward j ws b k x b k) (sym w) lowered_onward

  -- ---- a run of the level's length is the next tile
  module _ (full : f.len ≡ level) where
    abbrev pub next : Tile
    next = record { p = p; t = f.t.0; len = level }

    next_best : Best (state j ws) next
    next_best =
        record {
          long = sym (r.long full);
          most = below_level j ws level p s.fits.space s.bounded;
          above = λ q t h. omega (arith, s.bounded.upper q t (omega arith), s.bounded.passed q h);
          before = r.first full;
        }

    pub next_is : best (state j ws) ≡ next
    next_is = best_only (state j ws) (best (state j ws)) next (best_is (state j ws)) next_best

    next_lies : Lies (state j ws) next
    next_lies =
        let e : (best (state j ws)).len ≡ level = ap size next_is in
        subst (λ k. Lies (state j ws) k) next_is (best_lies (state j ws) (omega (arith, e, s.long, s.fits.least)))

    -- It lies within both sequences.
    pub in_pattern : p + level ≤ j.n
    in_pattern = omega (arith, next_lies.in_pattern, pattern_length j ws s.fits.space)

    pub in_text : f.t.0 + level ≤ j.m
    in_text = omega (arith, next_lies.in_text, text_length j ws s.fits.space)

    -- ---- its room
    after_state : state j (laid j p f.t.0 level ws) ≡ lay (state j ws) next
    after_state = state_laid j ws p f.t.0 level in_pattern in_text s.fits.space.roomy

    -- It takes its words from the free calls of the pattern.
    free_after : k.covered + level + tally is_call (take j.n (laid j p f.t.0 level ws)) ≤ j.n
    free_after =
        let e : tally is_call (take j.n (laid j p f.t.0 level ws)) ≡ tally is_call (lay (state j ws) next).pattern =
        ap (λ (u : State). tally is_call u.pattern) after_state in
        let t = takes_tile (state j ws) next next_lies in
        omega (arith, e, t.whole, t.from_pattern is_call zero_no_call, s.fits.free)

    each_after : (k.count + 1) * j.minimum ≤ k.covered + level
    each_after = omega (arith, add-mul k.count 1 j.minimum, one-mul j.minimum, s.fits.each, s.long)

    -- So there is room for one tile more.
    pub tile_fits : k.goal.listed ≡ true → 3 * (k.count + 1) ≤ length b
    tile_fits t =
        let q : k.count + 1 ≤ j.n / j.minimum = (le-div_iff_mul-le s.fits.least).1 (omega (arith, each_after, free_after)) in
        omega (arith, q, s.fits.tile_room t)

    -- Its words are free.
    pub on_free : OnFree j.minimum p level (state j ws).pattern
    on_free =
        record {
          least = s.fits.least;
          long = s.long;
          within = next_lies.in_pattern;
          free = λ i h. not_zero_left _ _ (next_lies.matching i h);
        }

    text_free : (i : ℕ) → i < level → Free (state j ws).text (f.t.0 + i)
    text_free i h = not_zero_right _ _ (next_lies.matching i h)

    -- And its numbers fit their types.
    few_covered : k.covered + level ≤ 2048
    few_covered = omega (arith, free_after, s.fits.space.short_pattern)

    few_tiles : k.count + 1 ≤ 2048
    few_tiles =
        let m = mul-le-mul_left (k.count + 1) s.fits.least in
        omega (arith, m, mul-one (k.count + 1), each_after, few_covered)

    pub count_small : k.count ≤ 2048
    count_small = omega (arith, few_tiles)

    pub level_small : level ≤ 2048
    level_small = omega (arith, few_covered)

    pub text_small : f.t.0 ≤ 2048
    text_small = omega (arith, in_text, s.fits.space.short_text)

    -- ---- the sweep goes on
    -- A row that the tile covers has no run any more: its first word is marked.
    covered_row : (q t : ℕ) → p ≤ q → q < p + level → run_at (lay (state j ws) next) q t ≡ 0
    unfolding lay
    covered_row q t h l = marked_row (lay (state j ws) next) q t (mark_inside p level (state j ws).pattern q h l)

    upper_after : (q t : ℕ) → q < j.n → run_at (lay (state j ws) next) q t ≤ bound j (laid j p f.t.0 level ws) q
    upper_after q t h = go (dec_lt q p) (dec_lt q (p + level))
      where
        kept : bound j (laid j p f.t.0 level ws) q ≡ bound j ws q → run_at (lay (state j ws) next) q t ≤ bound j (laid j p f.t.0 level ws) q
        kept e = omega (arith, e, lay_shrinks (state j ws) next q t, s.bounded.upper q t h)

        go : Dec (q < p) → Dec (q < p + level) → run_at (lay (state j ws) next) q t ≤ bound j (laid j p f.t.0 level ws) q
        go (yes l) d = kept (bound_before j ws p f.t.0 level in_pattern in_text s.fits.space.roomy q l)
        go (no l) (yes m) = omega (arith, covered_row q t (omega (arith, l)) m)
        go (no l) (no m) = kept (bound_after j ws p f.t.0 level in_pattern in_text s.fits.space.roomy q h (omega (arith, m)))

    -- No bound rises.
    bound_falls : (q : ℕ) → q < j.n → bound j (laid j p f.t.0 level ws) q ≤ bound j ws q
    bound_falls q h = go (dec_lt q p) (dec_lt q (p + level))
      where
        go : Dec (q < p) → Dec (q < p + level) → bound j (laid j p f.t.0 level ws) q ≤ bound j ws q
        go (yes l) d = omega (arith, bound_before j ws p f.t.0 level in_pattern in_text s.fits.space.roomy q l)
        go (no l) (yes m) = omega (arith, bound_covered j ws p f.t.0 level in_pattern in_text s.fits.space.roomy q h (omega (arith, l)) m)
        go (no l) (no m) = omega (arith, bound_after j ws p f.t.0 level in_pattern in_text s.fits.space.roomy q h (omega (arith, m)))

    passed_after : (q : ℕ) → q < p + 1 → bound j (laid j p f.t.0 level ws) q < level
    passed_after q h = go (dec_lt q p)
      where
        go : Dec (q < p) → bound j (laid j p f.t.0 level ws) q < level
        go (yes l) = omega (arith, bound_falls q (omega arith), s.bounded.passed q l)
        go (no l) = omega (arith, bound_covered j ws p f.t.0 level in_pattern in_text s.fits.space.roomy q (omega arith) (omega (arith, l)) (omega (arith, s.long, s.fits.least)), s.long, s.fits.least)

    module _ (b' : List ℕ) (e : b' ≡ one_more j k next b) where
      abbrev k' : Totals
      k' = laid_totals j p level ws k

      stepped : Sweeping j level (p + 1) (laid j p f.t.0 level ws) b' k'
      unfolding lay
      stepped =
          record {
            fits =
                record {
                  space = space_laid j ws p f.t.0 level in_pattern in_text (omega (arith, s.long, s.fits.least)) s.fits.space on_free.free text_free;
                  least = s.fits.least;
                  most = s.fits.most;
                  tile_room = λ t. rw (same_room k.goal.listed refl) (s.fits.tile_room t);
                  each = each_after;
                  free = free_after;
                  left = ap (λ (u : State). fillable j.minimum u.pattern) (sym after_state);
                };
            bounded =
                record {
                  upper = λ q t h. subst (λ u. run_at u q t ≤ bound j (laid j p f.t.0 level ws) q) (sym after_state) (upper_after q t h);
                  capped = λ q h. omega (arith, bound_falls q h, s.bounded.capped q h);
                  passed = passed_after;
                };
            long = s.long;
            within = omega arith;
          }
        where
          same_room : (t : Bool) → k.goal.listed ≡ t → length b' ≡ length b
          same_room true t = rw (e, t) (length_listed k.count b (listed j.straight next) (tile_fits t))
          same_room false t = rw (e, t) refl

      stepped_onward : at_goal k ≡ false → Onward j ws b k (laid j p f.t.0 level ws) b' k'
      unfolding covered lay
      stepped_onward going =
          record {
            keeps = λ s₀ b₀ l.
                record {
                  tiles = l.tiles ++ (next ∷ []);
                  rest = λ ls g. rw (append_assoc l.tiles (next ∷ []) ls) (l.rest (next ∷ ls) (lay_next ls g));
                  going = λ ls. rw (append_assoc l.tiles (next ∷ []) ls, append_assoc l.tiles (next ∷ []) (until_goal k.goal j.minimum (far j (laid j p f.t.0 level ws) k') ls)) (l.going (next ∷ ls) ∙ ap (λ xs. l.tiles ++ xs) (goes ls));
                  held = held s₀ b₀ l k.goal.listed refl;
                  counted = rw (length-append l.tiles (next ∷ []), l.counted) refl;
                  summed = rw (map-append (listed j.straight) l.tiles (next ∷ []), covered_append (map (listed j.straight) l.tiles) (listed j.straight next ∷ []), ← l.summed) (one_more_lem j.straight);
                };
            aim = refl;
          }
        where
          lay_next : (ls : List Tile) → Greedy best size lay j.minimum (state j (laid j p f.t.0 level ws)) ls → Greedy best size lay j.minimum (state j ws) (next ∷ ls)
          lay_next ls g =
              let h : Greedy best size lay j.minimum (lay (state j ws) (best (state j ws))) ls =
              subst (λ u. Greedy best size lay j.minimum u ls) (after_state ∙ ap (λ k. lay (state j ws) k) (sym next_is)) g in
              let m : j.minimum ≤ size (best (state j ws)) = omega (arith, ap size next_is, s.long) in
              subst (λ k. Greedy best size lay j.minimum (state j ws) (k ∷ ls)) next_is (more m h)

          goes : (ls : List Tile) → until_goal k.goal j.minimum (far j ws k) (next ∷ ls) ≡ next ∷ until_goal k.goal j.minimum (far j (laid j p f.t.0 level ws) k') ls
          goes ls =
              until_goes on_pattern size (stopped k.goal j.minimum) (far j ws k) next ls (sym (goal_is j ws b k s.fits) ∙ going)
              ∙ ap (λ (u : State). next ∷ until_goal k.goal j.minimum (record { covered = k.covered + level; pattern = u.pattern }) ls) (sym after_state)

          held : (s₀ : State) (b₀ : List ℕ) (l : Laid j s₀ b₀ ws b k) (t : Bool) → k.goal.listed ≡ t → b' ≡ pick k.goal.listed (onto (tile_words (map (listed j.straight) (l.tiles ++ (next ∷ [])))) b₀) b₀
          held s₀ b₀ l true t =
              let h : b ≡ onto (tile_words (map (listed j.straight) l.tiles)) b₀ = rw t at l.held in
              e ∙ (rw (t, h, l.counted, map-append (listed j.straight) l.tiles (next ∷ []), ← length-map l.tiles (listed j.straight)) (listed_more (map (listed j.straight) l.tiles) (listed j.straight next ∷ []) b₀))
          held s₀ b₀ l false t = let h : b ≡ b₀ = rw t at l.held in e ∙ (rw (t, h) refl)

          one_more_lem : (straight : Bool) → k.covered + level ≡ k.covered + covered (listed straight next ∷ [])
          one_more_lem true = omega arith
          one_more_lem false = omega arith

      -- The same of a workspace and a record that were made so.
      module _ (ws' : List ℕ) (w : ws' ≡ laid j p f.t.0 level ws) where
        pub stepped_falls : Falling j ws ws'
        stepped_falls = record { falls = λ q h. rw w (bound_falls q h) }

        module _ (sum : Totals) (is : sum ≡ k') where
          pub stepped_sweep : Sweeping j level (p + 1) ws' b' sum
          stepped_sweep = rw (w, is) stepped

          pub stepped_lays : at_goal k ≡ false → Onward j ws b k ws' b' sum
          stepped_lays going = rw (w, is) (stepped_onward going)
