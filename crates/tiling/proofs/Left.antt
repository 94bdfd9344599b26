-- What a tiling leaves, and what its tiles take. Runs only shrink, so the lengths never rise; a tile's words match, so they are no
-- zeros and lie apart from what was marked before; and a tile takes the same calls from both sequences.
-- Assumes nothing.
use Prim.Native.Nat.{ℕ, ◌-◌, ◌≤◌, ◌<◌}
use native.Mathlib.Omega.{arith}
use mathlib.Core.Path.{◌≡◌, refl}
use mathlib.Core.List.{List, [], ◌∷◌, ◌++◌, map}
use lib.ListN.{length}
use Rattle.symbol.proofs.Retired.{call_replaced}
use Rattle.symbol.specs.Word.{is_call}
use Rattle.tiling.specs.Each.{Each, Pairs, no_pair, before}
use Rattle.tiling.specs.Run.{mark}
use Rattle.tiling.specs.Greedy.{Greedy, done, more, after, Begins}
use Rattle.tiling.specs.Tiling.{Tile, State, run_at, best, Lies, size, on_pattern, on_text, lay, tiling}
use Rattle.tiling.specs.Listing.{straight, covered}
use Rattle.tiling.specs.Demand.{Left, Apart}
use Rattle.tiling.proofs.Run.{not_zero_left, not_zero_right}
use Rattle.tiling.proofs.Each.{each_also}
use Rattle.tiling.proofs.Tally.{tally_length}
use Rattle.tiling.proofs.Greedy.{only, complete, at_least, split, bounded, never_rise}
use Rattle.tiling.proofs.Best.{best_is}
use Rattle.tiling.proofs.Marked.{worked_none, lay_shrinks}
use Rattle.tiling.proofs.Covered.{marking, marked_apart, all_left}
use Rattle.tiling.proofs.Tiling.{best_lies, Takes, takes_none, takes_more, takes_tile, zero_no_call, tiling_greedy, laid_lie}

-- ---- what is left
-- Every run left is shorter than the minimum.
pub tiling_complete : (minimum : ℕ) → 1 ≤ minimum → (s : State) (p t : ℕ) → run_at (after lay s (tiling minimum s)) p t < minimum
tiling_complete minimum one s p t =
    let l = after lay s (tiling minimum s) in
    omega (arith, (best_is l).most p t, complete (tiling_greedy minimum one s))

-- The tiling at a greater minimum comes first, and then what is left is tiled.
pub tiling_split : (minimum longer : ℕ) → 1 ≤ minimum → minimum ≤ longer → (s : State) → tiling minimum s ≡ tiling longer s ++ tiling minimum (after lay s (tiling longer s))
tiling_split minimum longer one le s =
    only (tiling_greedy minimum one s)
    (split le (tiling_greedy longer (omega arith) s) (tiling_greedy minimum one (after lay s (tiling longer s))))

-- The lengths never rise.
best_shrinks : (s : State) → (best (lay s (best s))).len ≤ (best s).len
best_shrinks s =
    let k = best s in
    let l = best (lay s k) in
    omega (arith, (best_is (lay s k)).long, lay_shrinks s k l.p l.t, (best_is s).most l.p l.t)

pub tiling_falls : (minimum : ℕ) → 1 ≤ minimum → (s : State) → Pairs (λ k l. l.len ≤ k.len) (tiling minimum s)
tiling_falls minimum one s = never_rise best_shrinks (tiling_greedy minimum one s)

pub tiling_long : (minimum : ℕ) → 1 ≤ minimum → (s : State) → Each (λ k. minimum ≤ k.len) (tiling minimum s)
tiling_long minimum one s = at_least (tiling_greedy minimum one s)

-- What comes after the tiling at a greater minimum is shorter.
pub tiling_begins : (minimum longer : ℕ) → 1 ≤ minimum → minimum ≤ longer → (s : State) → Begins size longer (tiling longer s) (tiling minimum s)
tiling_begins minimum longer one le s =
    let l = after lay s (tiling longer s) in
    let h = complete (tiling_greedy longer (omega arith) s) in
    record {
      enough = tiling_long longer (omega arith) s;
      rest = tiling minimum l;
      whole = tiling_split minimum longer one le s;
      short = each_also (λ k m. omega (arith, m, h)) (bounded best_shrinks {n = longer - 1} (omega (arith, h)) (tiling_greedy minimum one l));
    }

-- ---- which words are left
-- A word is 0 where a tile covers it, and elsewhere it is what it was. For either side.
module _ (side : State → List ℕ) (at : Tile → ℕ) (marks : (s : State) (k : Tile) → side (lay s k) ≡ mark (at k) k.len (side s)) where
  after_side : (ks : List Tile) (s : State) → side (after lay s ks) ≡ after (marking at size) (side s) ks
  unfolding after
  after_side [] s = refl
  after_side (k ∷ ks) s = rw (← marks s k) (after_side ks (lay s k))

  side_left : (ks : List Tile) (s : State) (j : ℕ) → Left at size ks (side s) (side (after lay s ks)) j
  side_left ks s j = rw (after_side ks s) (all_left at size ks (side s) j)

pub pattern_left : (ks : List Tile) (s : State) (j : ℕ) → Left on_pattern size ks s.pattern (after lay s ks).pattern j
unfolding lay
pattern_left = side_left (λ s. s.pattern) on_pattern (λ s k. refl)

pub text_left : (ks : List Tile) (s : State) (j : ℕ) → Left on_text size ks s.text (after lay s ks).text j
unfolding lay
text_left = side_left (λ s. s.text) on_text (λ s k. refl)

-- ---- no two tiles overlap
-- A tile that lies in what is left after another.
pattern_apart : (s : State) (k l : Tile) → Lies (lay s k) l → Apart on_pattern size k l
unfolding lay
pattern_apart s k l r = marked_apart k.p k.len l.p l.len s.pattern (λ x h. not_zero_left _ _ (r.matching x h))

text_apart : (s : State) (k l : Tile) → Lies (lay s k) l → Apart on_text size k l
unfolding lay
text_apart s k l r = marked_apart k.t k.len l.t l.len s.text (λ x h. not_zero_right _ _ (r.matching x h))

later : {R : Tile → Tile → Type 0} → ((s : State) (k l : Tile) → Lies (lay s k) l → R k l) → {minimum : ℕ} {s : State} {ks : List Tile} → 1 ≤ minimum → Greedy best size lay minimum s ks → Pairs R ks
later h one (done k) = no_pair
later h one (more {s = s} k g) = before (each_also (h s (best s)) (laid_lie (lay s (best s)) one (worked_none (lay s (best s))) g)) (later h one g)

pub tiling_apart_pattern : (minimum : ℕ) → 1 ≤ minimum → (s : State) → Pairs (Apart on_pattern size) (tiling minimum s)
tiling_apart_pattern minimum one s = later pattern_apart one (tiling_greedy minimum one s)

pub tiling_apart_text : (minimum : ℕ) → 1 ≤ minimum → (s : State) → Pairs (Apart on_text size) (tiling minimum s)
tiling_apart_text minimum one s = later text_apart one (tiling_greedy minimum one s)

-- ---- what the tiles take
laid_take : {minimum : ℕ} {s : State} {ks : List Tile} → 1 ≤ minimum → Greedy best size lay minimum s ks → Takes s (after lay s ks) (covered (map straight ks))
unfolding after covered
laid_take one (done {s = s} h) = takes_none s
laid_take one (more {s = s} {ks = ks} h g) =
    takes_more s (lay s (best s)) (after lay (lay s (best s)) ks) (best s).len (covered (map straight ks))
    (takes_tile s (best s) (best_lies s (omega arith))) (laid_take one g)

pub tiling_takes : (minimum : ℕ) → 1 ≤ minimum → (s : State) → Takes s (after lay s (tiling minimum s)) (covered (map straight (tiling minimum s)))
tiling_takes minimum one s = laid_take one (tiling_greedy minimum one s)

-- ---- how much the tiles cover
pub covered_pattern : (minimum : ℕ) → 1 ≤ minimum → (s : State) → covered (map straight (tiling minimum s)) ≤ length s.pattern
covered_pattern minimum one s =
    let r = tiling_takes minimum one s in
    omega (arith, r.whole, r.from_pattern is_call zero_no_call, tally_length is_call s.pattern)

pub covered_text : (minimum : ℕ) → 1 ≤ minimum → (s : State) → covered (map straight (tiling minimum s)) ≤ length s.text
covered_text minimum one s =
    let r = tiling_takes minimum one s in
    omega (arith, r.whole, r.from_text is_call zero_no_call call_replaced, tally_length is_call s.text)
