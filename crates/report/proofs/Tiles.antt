-- The loop that writes the lines of the tiles of a tile buffer, one after another.
-- Assumes nothing.
use Prim.Native.Nat.{ℕ, ◌+◌, ◌-◌, ◌*◌, ◌≤◌, ◌<◌}
use native.Mathlib.Omega.{arith}
use mathlib.Core.Path.{◌≡◌, refl, sym, ◌∙◌, ap}
use mathlib.Core.List.{List, [], ◌∷◌, ◌++◌, append_assoc, append-nil}
use lib.ListN.{length, get_or, take, drop, length-append, length-drop, length-take, get_or-append}
use lib.Seq.{get_or-drop, get_or-take, drop-drop, drop_at}
use Rattle.tiling.specs.Each.{Each}
use Rattle.tiling.specs.Listing.{Entry}
use Rattle.tiling.specs.Demand.{tiles_in}
use Rattle.tiling.proofs.Tiles.{tile_at, tiles_in_more, tile_at_lem}
use Rattle.lines.specs.Appended.{Appended}
use Rattle.lines.proofs.Appended.{both, nothing}
use Rattle.report.specs.Pair.{tile_line, tile_lines}
use Rattle.report.specs.Written.{Starts}

tile_lines_append : (ds es : List Entry) → tile_lines (ds ++ es) ≡ tile_lines ds ++ tile_lines es
unfolding tile_lines
tile_lines_append [] es = refl
tile_lines_append (d ∷ ds) es = rw (tile_lines_append ds es, append_assoc (tile_line d) (tile_lines ds) (tile_lines es)) refl

-- ---- the loop of tile_lines: the lines of the first i tiles are written
pub record Printed (tiles : List ℕ) (count at : ℕ) (b₀ : List ℕ) (end : ℕ) (b : List ℕ) (i : ℕ) : Type 0 where
  pub within : i ≤ count
  pub whole : 3 * count ≤ length tiles
  pub starts : Each Starts (tiles_in count tiles)
  pub room : at + 45 * count ≤ length b₀
  pub same : length b ≡ length b₀
  pub held : Appended (45 * i) (tile_lines (tiles_in i tiles)) at b₀ end b
  pub next : end ≤ at + 45 * i

pub printed_none : (tiles : List ℕ) (count at : ℕ) (b : List ℕ) → 3 * count ≤ length tiles → Each Starts (tiles_in count tiles) → at + 45 * count ≤ length b → Printed tiles count at b at b 0
unfolding tiles_in tile_lines
printed_none tiles count at b whole starts room =
    record {
      within = omega arith;
      whole = whole;
      starts = starts;
      room = room;
      same = refl;
      held = nothing at b (omega arith);
      next = omega arith;
    }

module _ (tiles : List ℕ) (count at : ℕ) (b₀ : List ℕ) (end : ℕ) (b : List ℕ) (i : ℕ) (r : Printed tiles count at b₀ end b i) where
  pub line_room : i < count → end + 45 ≤ length b
  line_room h = omega (arith, r.next, r.room, r.same)

  pub first_start : i < count → get_or tiles (3 * i) 0 < 2048
  first_start h = (tile_at_lem {Q = Starts} count i tiles r.starts h).first

  pub second_start : i < count → get_or tiles (3 * i + 1) 0 < 2048
  second_start h = (tile_at_lem {Q = Starts} count i tiles r.starts h).second

  pub printed_more : i < count → (end' : ℕ) (b' : List ℕ) → Appended 45 (tile_line (tile_at tiles i)) end b end' b' → length b' ≡ length b → Printed tiles count at b₀ end' b' (i + 1)
  unfolding tile_lines
  printed_more h end' b' a k =
      let e : tile_lines (tiles_in (i + 1) tiles) ≡ tile_lines (tiles_in i tiles) ++ tile_line (tile_at tiles i) =
      ap tile_lines (tiles_in_more i tiles) ∙ (tile_lines_append (tiles_in i tiles) (tile_at tiles i ∷ []) ∙ ap (λ xs. tile_lines (tiles_in i tiles) ++ xs) (append-nil (tile_line (tile_at tiles i)))) in
      let m : 45 * (i + 1) ≡ 45 * i + 45 = omega arith in
      record {
        within = omega arith;
        whole = r.whole;
        starts = r.starts;
        room = r.room;
        same = k ∙ r.same;
        held = rw (e, m) (both r.held a);
        next = omega (arith, a.next, a.few, r.next);
      }

-- ---- the same along the buffer's pieces of three words: what is left of the buffer is what stands behind the tiles that were taken, ys
pub record Lining {A : Type 0} (tiles : List ℕ) (count at : ℕ) (b₀ : List ℕ) (end : ℕ) (b rest : List ℕ) (size : ℕ) (ys : List A) : Type 0 where
  pub printed : Printed tiles count at b₀ end b (length ys)
  pub left : rest ≡ drop (3 * length ys) (take (3 * count) tiles)
  pub three : size ≡ 3

pub lining_none : {A : Type 0} (tiles : List ℕ) (count at : ℕ) (b rest : List ℕ) (size : ℕ) → 3 * count ≤ length tiles → Each Starts (tiles_in count tiles) → at + 45 * count ≤ length b → rest ≡ take (3 * count) tiles → size ≡ 3 → Lining {A = A} tiles count at b at b rest size []
lining_none tiles count at b rest size whole starts room e s = record { printed = printed_none tiles count at b whole starts room; left = e; three = s }

module _ {A : Type 0} (tiles : List ℕ) (count at : ℕ) (b₀ : List ℕ) (end : ℕ) (b rest : List ℕ) (size : ℕ) (ys : List A) (r : Lining tiles count at b₀ end b rest size ys) where
  remaining : length rest ≡ 3 * count - 3 * length ys
  remaining = ap length r.left ∙ simp (length-drop, length-take) (omega (arith, r.printed.whole))

  module _ (tile rest' : List ℕ) (cut : rest ≡ tile ++ rest') (whole : length tile ≡ size) where
    more : length ys < count
    more = omega (arith, remaining, ap length cut, length-append tile rest', whole, r.three)

    word : (k : ℕ) → k < 3 → get_or tile k 0 ≡ get_or tiles (3 * length ys + k) 0
    word k h =
        sym (get_or-append tile rest' 0 k (omega (arith, whole, r.three)))
        ∙ (ap (λ xs. get_or xs k 0) (sym cut ∙ r.left)
        ∙ (get_or-drop (3 * length ys) (take (3 * count) tiles) k 0 ∙ get_or-take (3 * count) tiles (3 * length ys + k) 0 (omega (arith, more))))

    first_word : get_or tile 0 0 ≡ get_or tiles (3 * length ys) 0
    first_word = let e : 3 * length ys + 0 ≡ 3 * length ys = omega arith in rw e at (word 0 (omega arith))

    pub lining_room : end + 45 ≤ length b
    lining_room = line_room tiles count at b₀ end b (length ys) r.printed more

    pub lining_first : get_or tile 0 0 < 2048
    lining_first = rw first_word (first_start tiles count at b₀ end b (length ys) r.printed more)

    pub lining_second : get_or tile 1 0 < 2048
    lining_second = rw (word 1 (omega arith)) (second_start tiles count at b₀ end b (length ys) r.printed more)

    pub lining_more : (end' : ℕ) (b' : List ℕ) → Appended 45 (tile_line (record { first = get_or tile 0 0; second = get_or tile 1 0; len = get_or tile 2 0 })) end b end' b' → length b' ≡ length b → (size' : ℕ) → size' ≡ size → (y : A) → Lining tiles count at b₀ end' b' rest' size' (ys ++ (y ∷ []))
    lining_more end' b' a k size' s y =
        let n : length (ys ++ (y ∷ [])) ≡ length ys + 1 = length-append ys (y ∷ []) in
        let m : 3 * (length ys + 1) ≡ 3 * length ys + 3 = omega arith in
        record {
          printed = rw n (printed_more tiles count at b₀ end b (length ys) r.printed more end' b' (rw (first_word, word 1 (omega arith), word 2 (omega arith)) at a) k);
          left = rw (n, m, ← drop-drop 3 (3 * length ys) (take (3 * count) tiles), ← r.left, cut) (sym (drop_at tile rest' 3 (whole ∙ r.three)));
          three = s ∙ r.three;
        }
