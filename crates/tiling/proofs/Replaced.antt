-- What replacing leaves as it is: runs, hashes, tiles and counts are those of the replaced words, as the match of two words is
-- (`match_replaced`, symbol/proofs/Retired.antt). 01's match holds of the replaced words just where the words match; so runs are the same,
-- and so, since a marked word is its own replacement, are the tiles, one after another. A comparison that knows no retired code lays the
-- same tiles, if the words are replaced beforehand.
-- Assumes nothing.
use Prim.Native.Nat.{ℕ, zero, suc}
use native.Mathlib.Omega.{arith}
use mathlib.Core.Path.{◌≡◌, refl, sym, ◌∙◌, ap}
use mathlib.Core.Bool.{Bool, true, false}
use mathlib.Core.List.{List, [], ◌∷◌, map}
use lib.Dec.{leb}
use lib.ListN.{length, drop, length-map}
use Rattle.symbol.specs.Word.{is_retired, replaced, equal_calls, matches}
use Rattle.symbol.specs.Sequence.{Current}
use Rattle.symbol.proofs.Retired.{replaced_below, replaced_none, replaced_some}
use Rattle.symbol.proofs.Sequence.{drop_replaced, current_replaced}
use Rattle.window.specs.Hash.{words_hash, hash}
use Rattle.tiling.specs.Run.{leading, run, equal_run, mark}
use Rattle.tiling.specs.Stretch.{stretches_after, sum_long, fillable}
use Rattle.tiling.specs.Greedy.{peak, greedy}
use Rattle.tiling.specs.Demand.{is_call_with, calls_with, smaller_counts}
use Rattle.tiling.specs.Choice.{first_is_pattern}
use Rattle.tiling.specs.Listing.{straight, crossed, listed_by, listing, outside_listing}
use Rattle.tiling.specs.Tiling.{Tile, State, lay, size, run_by, best_text_by, row_length_by, best_by, tiling_by, run_at, best_text, row_length, best, tiling, start, replaced_in, AllCurrent}
use Rattle.tiling.proofs.Tally.{tally_map}
use Rattle.tiling.proofs.Choice.{by_length}
use Rattle.tiling.proofs.Codes.{smaller_same, with_replaced}

-- ---- runs
leading_map : (test : ℕ → ℕ → Bool) (f : ℕ → ℕ) (xs ys : List ℕ) → leading test (map f xs) (map f ys) ≡ leading (λ x y. test (f x) (f y)) xs ys
unfolding leading
leading_map test f [] ys = refl
leading_map test f (x ∷ xs) [] = refl
leading_map test f (x ∷ xs) (y ∷ ys) = ap (λ n. elim (test (f x) (f y)) [ true ↦ suc n | false ↦ 0 ]) (leading_map test f xs ys)

-- Of replaced words 01's match gives the run.
pub run_replaced : (xs ys : List ℕ) → equal_run (map replaced xs) (map replaced ys) ≡ run xs ys
unfolding matches
run_replaced xs ys = leading_map equal_calls replaced xs ys

pub run_same : (xs ys : List ℕ) → run (map replaced xs) (map replaced ys) ≡ run xs ys
run_same xs ys = sym (run_replaced (map replaced xs) (map replaced ys)) ∙ (rw (current_replaced xs, current_replaced ys) (run_replaced xs ys))

pub run_current : (xs ys : List ℕ) → Current xs → Current ys → equal_run xs ys ≡ run xs ys
run_current xs ys c d = ap (λ zs. equal_run zs ys) (sym c) ∙ (ap (equal_run (map replaced xs)) (sym d) ∙ run_replaced xs ys)

-- ---- hashes and counts
pub hash_same : (B : ℕ) (window : List ℕ) → hash B (map replaced window) ≡ hash B window
hash_same B window = ap (words_hash B) (current_replaced window)

calls_same : (c : ℕ) (s : List ℕ) → calls_with c (map replaced s) ≡ calls_with c s
calls_same c s = tally_map (is_call_with c) replaced (with_replaced c) s

pub counts_same : (n : ℕ) (first second : List ℕ) → smaller_counts n (map replaced first) (map replaced second) ≡ smaller_counts n first second
counts_same n first second =
    smaller_same (map replaced first) (map replaced second) first second (λ c. rw (calls_same c first, calls_same c second) refl) n

-- ---- marking
pub mark_replaced : (i n : ℕ) (xs : List ℕ) → mark i n (map replaced xs) ≡ map replaced (mark i n xs)
unfolding mark
mark_replaced i n [] = refl
mark_replaced (suc i) n (x ∷ xs) = ap (λ zs. replaced x ∷ zs) (mark_replaced i n xs)
mark_replaced zero zero (x ∷ xs) = refl
mark_replaced zero (suc n) (x ∷ xs) = rw (mark_replaced zero n xs, replaced_below 0 (omega arith)) refl

-- ---- free stretches
-- Only a marked word becomes 0.
pub replaced_free : (w : ℕ) → replaced w ≡ 0 → w ≡ 0
replaced_free w z = go (is_retired w) refl
  where
    go : (b : Bool) → is_retired w ≡ b → w ≡ 0
    go true e = absurd (omega (arith, replaced_some w e, z))
    go false e = sym (replaced_none w e) ∙ z

stretches_go_on : (a w : ℕ) (ws : List ℕ) → (w ≡ 0 → ⊥) → stretches_after a (w ∷ ws) ≡ stretches_after (suc a) ws
unfolding stretches_after
stretches_go_on a zero ws d = absurd (d refl)
stretches_go_on a (suc w) ws d = refl

stretches_replaced : (a : ℕ) (ws : List ℕ) → stretches_after a (map replaced ws) ≡ stretches_after a ws
unfolding stretches_after
stretches_replaced a [] = refl
stretches_replaced a (zero ∷ ws) = rw (replaced_below 0 (omega arith)) (ap (λ ns. a ∷ ns) (stretches_replaced 0 ws))
stretches_replaced a (suc w ∷ ws) =
    stretches_go_on a (replaced (suc w)) (map replaced ws) (λ z. absurd (omega (arith, replaced_free (suc w) z))) ∙ stretches_replaced (suc a) ws

pub fillable_replaced : (minimum : ℕ) (ws : List ℕ) → fillable minimum (map replaced ws) ≡ fillable minimum ws
fillable_replaced minimum ws = ap (sum_long minimum) (stretches_replaced 0 ws)

lay_replaced : (s : State) (k : Tile) → lay (replaced_in s) k ≡ replaced_in (lay s k)
unfolding lay
lay_replaced s k = rw (mark_replaced k.p k.len s.pattern, mark_replaced k.t k.len s.text) refl

-- ---- tiles
run_at_lem : (s : State) (p t : ℕ) → run_by equal_calls (replaced_in s) p t ≡ run_at s p t
run_at_lem s p t = rw (drop_replaced p s.pattern, drop_replaced t s.text) (run_replaced (drop p s.pattern) (drop t s.text))

peak_same : (f g : ℕ → ℕ) → ((i : ℕ) → f i ≡ g i) → (n : ℕ) → peak f n ≡ peak g n
peak_same f g h n = ap (λ (k : ℕ → ℕ). peak k n) (λ i x. h x i)

best_text_lem : (s : State) (p : ℕ) → best_text_by equal_calls (replaced_in s) p ≡ best_text s p
unfolding best_text_by
best_text_lem s p = rw (length-map s.text replaced) (peak_same _ _ (run_at_lem s p) (length s.text))

row_length_lem : (s : State) (p : ℕ) → row_length_by equal_calls (replaced_in s) p ≡ row_length s p
unfolding row_length_by
row_length_lem s p = rw (best_text_lem s p) (run_at_lem s p (best_text s p))

best_replaced : (s : State) → best_by equal_calls (replaced_in s) ≡ best s
unfolding best_by
best_replaced s =
    let p : peak (row_length_by equal_calls (replaced_in s)) (length (map replaced s.pattern)) ≡ peak (row_length s) (length s.pattern) =
    rw (length-map s.pattern replaced) (peak_same _ _ (row_length_lem s) (length s.pattern)) in
    rw (p, best_text_lem s (peak (row_length s) (length s.pattern)), row_length_lem s (peak (row_length s) (length s.pattern))) refl

greedy_replaced : (fuel minimum : ℕ) (s : State) → greedy (best_by equal_calls) size lay fuel minimum (replaced_in s) ≡ greedy best size lay fuel minimum s
unfolding greedy
greedy_replaced zero minimum s = refl
greedy_replaced (suc fuel) minimum s =
    let rest : greedy (best_by equal_calls) size lay fuel minimum (lay (replaced_in s) (best_by equal_calls (replaced_in s))) ≡ greedy best size lay fuel minimum (lay s (best s)) =
    rw (best_replaced s, lay_replaced s (best s)) (greedy_replaced fuel minimum (lay s (best s))) in
    λ i. elim (leb minimum (size (best_replaced s i))) [ true ↦ best_replaced s i ∷ rest i | false ↦ [] ]

-- "An outside comparison runs on strands replaced beforehand": 01's tiling, which knows no retired code, of the replaced words.
pub tiling_outside : (minimum : ℕ) (s : State) → tiling_by equal_calls minimum (replaced_in s) ≡ tiling minimum s
unfolding tiling_by
tiling_outside minimum s = rw (length-map s.pattern replaced) (greedy_replaced (length s.pattern) minimum s)

-- Replacing the words changes no tile.
pub tiling_replaced : (minimum : ℕ) (s : State) → tiling minimum (replaced_in s) ≡ tiling minimum s
tiling_replaced minimum s =
    sym (tiling_outside minimum (replaced_in s))
    ∙ (rw (current_replaced s.pattern, current_replaced s.text) (tiling_outside minimum s))

-- So what an outside comparison lists is the listing.
pub listing_outside : (first second : List ℕ) (minimum : ℕ) → outside_listing first second minimum ≡ listing first second minimum
unfolding outside_listing listing
listing_outside first second minimum = go (first_is_pattern first second)
  where
    go : (b : Bool) → listed_by b (tiling_by equal_calls minimum) (map replaced first) (map replaced second) ≡ listed_by b (tiling minimum) first second
    go true = ap (map straight) (tiling_outside minimum (start first second))
    go false = ap (map crossed) (tiling_outside minimum (start second first))

-- Our own listing of the replaced words is the same too, where they choose the same pattern; so it is where the lengths differ.
pub listing_replaced : (first second : List ℕ) (minimum : ℕ) → first_is_pattern (map replaced first) (map replaced second) ≡ first_is_pattern first second → listing (map replaced first) (map replaced second) minimum ≡ listing first second minimum
unfolding listing
listing_replaced first second minimum e =
    ap (λ b. listed_by b (tiling minimum) (map replaced first) (map replaced second)) e ∙ go (first_is_pattern first second)
  where
    go : (b : Bool) → listed_by b (tiling minimum) (map replaced first) (map replaced second) ≡ listed_by b (tiling minimum) first second
    go true = ap (map straight) (tiling_replaced minimum (start first second))
    go false = ap (map crossed) (tiling_replaced minimum (start second first))

pub listing_by_length : (first second : List ℕ) (minimum : ℕ) → (length first ≡ length second → ⊥) → listing (map replaced first) (map replaced second) minimum ≡ listing first second minimum
listing_by_length first second minimum d =
    let n : length (map replaced first) ≡ length first = length-map first replaced in
    let m : length (map replaced second) ≡ length second = length-map second replaced in
    listing_replaced first second minimum
    (by_length (map replaced first) (map replaced second) (λ e. d (sym n ∙ (e ∙ m))) ∙ (rw (n, m) (sym (by_length first second d))))

-- ---- states whose words are all replaced
pub current_start : (pattern text : List ℕ) → AllCurrent (replaced_in (start pattern text))
current_start pattern text = record { of_pattern = current_replaced pattern; of_text = current_replaced text }

pub current_lay : (s : State) (k : Tile) → AllCurrent s → AllCurrent (lay s k)
unfolding lay
current_lay s k c =
    record {
      of_pattern = sym (mark_replaced k.p k.len s.pattern) ∙ ap (mark k.p k.len) c.of_pattern;
      of_text = sym (mark_replaced k.t k.len s.text) ∙ ap (mark k.t k.len) c.of_text;
    }
