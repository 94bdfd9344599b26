-- Demand 3 of the listing. The laws are those of the tiling with the first sequence as the pattern; turning the sides of each tile and
-- of the sequences keeps them, so they hold whichever sequence is the pattern. Of two sequences that are not equal the pattern is the same one
-- either way, and the tiles of a sequence with itself have equal starts, so exchanging the sequences only turns the sides.
-- Assumes nothing.
use Prim.Native.Nat.{ℕ, zero, suc, ◌+◌, ◌*◌, ◌/◌, ◌≤◌, ◌<◌, ◌^◌, min}
use native.Mathlib.Nat.{add_comm, mul_comm, suc-mul, mul-div-le, le-div_iff_mul-le}
use native.Mathlib.Omega.{arith}
use mathlib.Core.Path.{◌≡◌, refl, sym, ◌∙◌, ap}
use mathlib.Core.Bool.{Bool, true, false, not}
use mathlib.Core.List.{List, [], ◌∷◌, ◌++◌, map, map-map, map-append}
use mathlib.Core.Logic.{inl, inr}
use lib.ListN.{length, drop, length-map}
use lib.Seq.{get_or-drop}
use Rattle.symbol.proofs.Retired.{match_swap}
use Rattle.tiling.specs.Each.{Each, none, also, Pairs}
use Rattle.tiling.specs.Greedy.{after, Begins}
use Rattle.tiling.specs.Tiling.{Tile, Lies, start, size, lay, tiling}
use Rattle.tiling.specs.Choice.{first_is_pattern, EitherWay}
use Rattle.tiling.specs.Listing.{Entry, straight, crossed, listed_by, listing, covered, score}
use Rattle.tiling.specs.Demand.{FreeRun, Stands, Apart, on_first, on_second, long, smaller_counts, exchanged, EqualStarts, Tiled}
use Rattle.tiling.proofs.Run.{run_least}
use Rattle.tiling.proofs.Each.{each_map, each_unmap, pairs_map}
use Rattle.tiling.proofs.Tiling.{tiles_lie}
use Rattle.tiling.proofs.Left.{tiling_complete, tiling_falls, pattern_left, text_left, tiling_apart_pattern, tiling_apart_text, covered_pattern, covered_text, tiling_long, tiling_begins}
use Rattle.tiling.proofs.Choice.{pattern_turn}
use Rattle.tiling.proofs.Itself.{tiling_itself}
use Rattle.tiling.proofs.Codes.{smaller_same, at_one, code_below}

-- ---- the first sequence as the pattern
straight_no_run : (first second : List ℕ) (minimum : ℕ) → 1 ≤ minimum → (i j : ℕ) → FreeRun first second (map straight (tiling minimum (start first second))) minimum i j → ⊥
straight_no_run first second minimum one i j r =
    let s = start first second in
    let ks = tiling minimum s in
    let l = after lay s ks in
    let n = run_least (drop i l.pattern) (drop j l.text) minimum (λ x h.
    rw (
      get_or-drop i l.pattern x 0,
      get_or-drop j l.text x 0,
      (pattern_left ks s (i + x)).kept (each_unmap straight (λ k d. d) ks (r.first_free x h)),
      (text_left ks s (j + x)).kept (each_unmap straight (λ k d. d) ks (r.second_free x h)),
    )
    (r.matching x h)) in
    omega (arith, n, tiling_complete minimum one s i j)

straight_stands : (first second : List ℕ) (k : Tile) → Lies (start first second) k → Stands first second (straight k)
straight_stands first second k l = record { in_first = l.in_pattern; in_second = l.in_text; matching = l.matching }

straight_tiled : (first second : List ℕ) (minimum : ℕ) → 1 ≤ minimum → Tiled first second minimum (map straight (tiling minimum (start first second)))
straight_tiled first second minimum one =
    let s = start first second in
    record {
      no_free_run = straight_no_run first second minimum one;
      at_one = λ e. rw e (at_one (2 ^ 16) code_below s);
      stands = each_map straight (straight_stands first second) (tiles_lie minimum one s);
      each_long = each_map straight (λ k h. h) (tiling_long minimum one s);
      falling = pairs_map straight (λ k l h. h) (tiling_falls minimum one s);
      apart_first = pairs_map straight (λ k l h. h) (tiling_apart_pattern minimum one s);
      apart_second = pairs_map straight (λ k l h. h) (tiling_apart_text minimum one s);
      within_first = covered_pattern minimum one s;
      within_second = covered_text minimum one s;
    }

-- What is covered, with more tiles.
pub covered_append : (es fs : List Entry) → covered (es ++ fs) ≡ covered es + covered fs
unfolding covered
covered_append [] fs = omega arith
covered_append (e ∷ es) fs = omega (arith, covered_append es fs)

-- ---- turning the sides
pub covered_exchanged : (tiles : List Entry) → covered (map exchanged tiles) ≡ covered tiles
unfolding covered
covered_exchanged [] = refl
covered_exchanged (e ∷ tiles) = ap (λ n. e.len + n) (covered_exchanged tiles)

run_exchanged : (first second : List ℕ) (tiles : List Entry) (n i j : ℕ) → FreeRun second first (map exchanged tiles) n i j → FreeRun first second tiles n j i
run_exchanged first second tiles n i j r =
    record {
      in_first = r.in_second;
      in_second = r.in_first;
      first_free = λ x h. each_unmap exchanged (λ k d. d) tiles (r.second_free x h);
      second_free = λ x h. each_unmap exchanged (λ k d. d) tiles (r.first_free x h);
      matching = λ x h. match_swap _ _ (r.matching x h);
    }

exchanged_stands : (first second : List ℕ) (e : Entry) → Stands first second e → Stands second first (exchanged e)
exchanged_stands first second e r = record { in_first = r.in_second; in_second = r.in_first; matching = λ i h. match_swap _ _ (r.matching i h) }

exchanged_tiled : (first second : List ℕ) (minimum : ℕ) (tiles : List Entry) → Tiled first second minimum tiles → Tiled second first minimum (map exchanged tiles)
exchanged_tiled first second minimum tiles r =
    let n = covered_exchanged tiles in
    record {
      no_free_run = λ i j f. r.no_free_run j i (run_exchanged first second tiles minimum i j f);
      at_one = λ e. n ∙ (r.at_one e ∙ smaller_same first second second first (λ c. omega arith) (2 ^ 16));
      stands = each_map exchanged (exchanged_stands first second) r.stands;
      each_long = each_map exchanged (λ e h. h) r.each_long;
      falling = pairs_map exchanged (λ d e h. h) r.falling;
      apart_first = pairs_map exchanged (λ d e h. h) r.apart_second;
      apart_second = pairs_map exchanged (λ d e h. h) r.apart_first;
      within_first = omega (arith, n, r.within_second);
      within_second = omega (arith, n, r.within_first);
    }

-- ---- the listing
listing_straight : (first second : List ℕ) (minimum : ℕ) → first_is_pattern first second ≡ true → listing first second minimum ≡ map straight (tiling minimum (start first second))
unfolding listing
listing_straight first second minimum e = rw (listing, e) refl

listing_crossed : (first second : List ℕ) (minimum : ℕ) → first_is_pattern first second ≡ false → listing first second minimum ≡ map exchanged (map straight (tiling minimum (start second first)))
unfolding listing
listing_crossed first second minimum e = rw (listing, e) (sym (map-map exchanged straight (tiling minimum (start second first))))

pub listing_tiled : (first second : List ℕ) (minimum : ℕ) → 1 ≤ minimum → Tiled first second minimum (listing first second minimum)
listing_tiled first second minimum one = go (first_is_pattern first second) refl
  where
    go : (b : Bool) → first_is_pattern first second ≡ b → Tiled first second minimum (listing first second minimum)
    go true e = rw (listing_straight first second minimum e) (straight_tiled first second minimum one)
    go false e =
        rw (listing_crossed first second minimum e)
        (exchanged_tiled second first minimum (map straight (tiling minimum (start second first))) (straight_tiled second first minimum one))

-- ---- exchanging the sequences
exchanged_twice : (tiles : List Entry) → map exchanged (map exchanged tiles) ≡ tiles
exchanged_twice [] = refl
exchanged_twice (e ∷ tiles) = ap (λ es. e ∷ es) (exchanged_twice tiles)

-- A sequence with itself: each listed tile has equal starts, so exchanging its sides leaves it as it is.
pub equal_starts : (s : List ℕ) (minimum : ℕ) → Each EqualStarts (listing s s minimum)
equal_starts s minimum = go (first_is_pattern s s) refl
  where
    on_both : Each EqualStarts (map straight (tiling minimum (start s s)))
    on_both = each_map straight (λ k h. h) (tiling_itself minimum s)

    go : (b : Bool) → first_is_pattern s s ≡ b → Each EqualStarts (listing s s minimum)
    go true e = rw (listing_straight s s minimum e) on_both
    go false e = rw (listing_crossed s s minimum e) (each_map exchanged (λ k h. sym h) on_both)

exchanged_equal : (tiles : List Entry) → Each EqualStarts tiles → map exchanged tiles ≡ tiles
exchanged_equal [] none = refl
exchanged_equal (e ∷ tiles) (also h r) =
    ap (λ k. k ∷ map exchanged tiles) (λ i. record { first = sym h i; second = h i; len = e.len }) ∙ ap (λ es. e ∷ es) (exchanged_equal tiles r)

-- "Exchanging the strands now only exchanges tile sides for all accepted pairs, equal lengths included."
pub exchange : (first second : List ℕ) (minimum : ℕ) → listing second first minimum ≡ map exchanged (listing first second minimum)
exchange first second minimum = go (pattern_turn first second) (first_is_pattern first second) refl
  where
    go : EitherWay first_is_pattern first second → (b : Bool) → first_is_pattern first second ≡ b → listing second first minimum ≡ map exchanged (listing first second minimum)
    go (inl t) true e =
        listing_crossed second first minimum (t ∙ ap not e) ∙ ap (λ es. map exchanged es) (sym (listing_straight first second minimum e))
    go (inl t) false e =
        listing_straight second first minimum (t ∙ ap not e)
        ∙ (sym (exchanged_twice _) ∙ ap (λ es. map exchanged es) (sym (listing_crossed first second minimum e)))
    go (inr s) b e = rw s (sym (exchanged_equal (listing second second minimum) (equal_starts second minimum)))

-- "order, lengths, tile count, covered and score are equal."
pub exchange_count : (first second : List ℕ) (minimum : ℕ) → length (listing second first minimum) ≡ length (listing first second minimum)
exchange_count first second minimum = rw (exchange first second minimum) (length-map (listing first second minimum) exchanged)

pub exchange_covered : (first second : List ℕ) (minimum : ℕ) → covered (listing second first minimum) ≡ covered (listing first second minimum)
exchange_covered first second minimum = rw (exchange first second minimum) (covered_exchanged (listing first second minimum))

pub exchange_score : (first second : List ℕ) (minimum : ℕ) → score (covered (listing second first minimum)) (length second + length first) ≡ score (covered (listing first second minimum)) (length first + length second)
exchange_score first second minimum = rw (exchange_covered first second minimum, add_comm (length second) (length first)) refl

-- ---- the laws of the listing one by one
pub no_free_run : (first second : List ℕ) (minimum : ℕ) → 1 ≤ minimum → (i j : ℕ) → FreeRun first second (listing first second minimum) minimum i j → ⊥
no_free_run first second minimum one = (listing_tiled first second minimum one).no_free_run

pub covered_at_one : (first second : List ℕ) → covered (listing first second 1) ≡ smaller_counts (2 ^ 16) first second
covered_at_one first second = (listing_tiled first second 1 (omega arith)).at_one refl

-- Each listed tile lies within both sequences, and its words match one by one.
pub listing_stands : (first second : List ℕ) (minimum : ℕ) → 1 ≤ minimum → Each (Stands first second) (listing first second minimum)
listing_stands first second minimum one = (listing_tiled first second minimum one).stands

pub lengths_fall : (first second : List ℕ) (minimum : ℕ) → 1 ≤ minimum → Pairs (λ d e. e.len ≤ d.len) (listing first second minimum)
lengths_fall first second minimum one = (listing_tiled first second minimum one).falling

pub no_overlap_first : (first second : List ℕ) (minimum : ℕ) → 1 ≤ minimum → Pairs (Apart on_first long) (listing first second minimum)
no_overlap_first first second minimum one = (listing_tiled first second minimum one).apart_first

pub no_overlap_second : (first second : List ℕ) (minimum : ℕ) → 1 ≤ minimum → Pairs (Apart on_second long) (listing first second minimum)
no_overlap_second first second minimum one = (listing_tiled first second minimum one).apart_second

pub covered_first : (first second : List ℕ) (minimum : ℕ) → 1 ≤ minimum → covered (listing first second minimum) ≤ length first
covered_first first second minimum one = (listing_tiled first second minimum one).within_first

pub covered_second : (first second : List ℕ) (minimum : ℕ) → 1 ≤ minimum → covered (listing first second minimum) ≤ length second
covered_second first second minimum one = (listing_tiled first second minimum one).within_second

pub covered_least : {minimum : ℕ} {tiles : List Entry} → Each (λ e. minimum ≤ e.len) tiles → length tiles * minimum ≤ covered tiles
unfolding covered
covered_least none = omega arith
covered_least {minimum = minimum} (also {xs = tiles} h r) = rw (suc-mul (length tiles) minimum) (omega (arith, covered_least r))

-- The tiles fit into a tile buffer of "3 × (shorter length divided by minimum, rounded down) words".
pub tiles_fit : (first second : List ℕ) (minimum : ℕ) → 1 ≤ minimum → 3 * length (listing first second minimum) ≤ 3 * (min (length first) (length second) / minimum)
tiles_fit first second minimum one =
    let r = listing_tiled first second minimum one in
    let n : length (listing first second minimum) * minimum ≤ min (length first) (length second) =
    omega (arith, covered_least r.each_long, r.within_first, r.within_second) in
    let m : length (listing first second minimum) ≤ min (length first) (length second) / minimum = (le-div_iff_mul-le one).1 n in
    omega (arith, m)

-- ---- a greater minimum
begins_map : (f : Tile → Entry) → ((k : Tile) → (f k).len ≡ k.len) → (longer : ℕ) (ks ls : List Tile) → Begins size longer ks ls → Begins long longer (map f ks) (map f ls)
begins_map f e longer ks ls r =
    record {
      enough = each_map f (λ k h. rw (e k) h) r.enough;
      rest = map f r.rest;
      whole = ap (λ xs. map f xs) r.whole ∙ map-append f ks r.rest;
      short = each_map f (λ k h. rw (e k) h) r.short;
    }

pub listing_begins : (first second : List ℕ) (minimum longer : ℕ) → 1 ≤ minimum → minimum ≤ longer → Begins long longer (listing first second longer) (listing first second minimum)
unfolding listing
listing_begins first second minimum longer one le = go (first_is_pattern first second)
  where
    go : (b : Bool) → Begins long longer (listed_by b (tiling longer) first second) (listed_by b (tiling minimum) first second)
    go true = begins_map straight (λ k. refl) longer _ _ (tiling_begins minimum longer one le (start first second))
    go false = begins_map crossed (λ k. refl) longer _ _ (tiling_begins minimum longer one le (start second first))

-- So covered never rises, and neither does the score.
pub covered_falls : (first second : List ℕ) (minimum longer : ℕ) → 1 ≤ minimum → minimum ≤ longer → covered (listing first second longer) ≤ covered (listing first second minimum)
covered_falls first second minimum longer one le =
    let r = listing_begins first second minimum longer one le in
    omega (arith, ap covered r.whole, covered_append (listing first second longer) r.rest)

pub score_falls : (c d total : ℕ) → c ≤ d → score c total ≤ score d total
unfolding score
score_falls c d zero h = omega arith
score_falls c d (suc total) h =
    let n : 2000 * c / suc total * suc total ≤ 2000 * d = omega (arith, mul-div-le (2000 * c) (suc total), mul_comm (2000 * c / suc total) (suc total)) in
    let some : 0 < suc total = omega arith in
    (le-div_iff_mul-le some).1 n
