-- Words written to the start of a list's tail: what lies before the tail stays, and so does what lies beyond the words.
-- Assumes nothing.
use Prim.Native.Nat.{ℕ, ◌+◌, ◌*◌, ◌-◌, ◌≤◌}
use native.Mathlib.Omega.{arith}
use mathlib.Core.Path.{◌≡◌, refl}
use mathlib.Core.Bool.{Bool, true, false}
use mathlib.Core.List.{List, [], ◌∷◌, ◌++◌, append_assoc, append-nil}
use lib.ListN.{length, take, drop, length-append, length-take, length-drop, drop_of_length-le}
use lib.Seq.{take_at, drop_at, drop-drop}
use Rattle.buffer.specs.Buffer.{onto}
use Rattle.buffer.proofs.Buffer.{length_onto, tail_is}
use Rattle.tiling.specs.Listing.{Entry, tile_words}
use Rattle.tile.specs.Listed.{listed}

-- Nothing follows the part of a list from a position to its end.
pub tail_last : (at : ℕ) (xs : List ℕ) → drop (length xs - at) (drop at xs) ≡ []
tail_last at xs = drop_of_length-le (drop at xs) {i = length xs - at} (omega (arith, length-drop at xs))

-- The tail put back with words at its start.
pub tail_put : (at : ℕ) (xs ys s : List ℕ) → ys ≡ onto s (take (length xs - at) (drop at xs)) → take at xs ++ (ys ++ drop (length xs - at) (drop at xs)) ≡ take at xs ++ onto s (drop at xs)
tail_put at xs ys s e = rw (e, tail_is at xs, tail_last at xs, append-nil (onto s (drop at xs))) refl

-- The same with the words of one tile, by which sequence is the pattern.
pub tail_straight : (at : ℕ) (xs ys : List ℕ) (straight : Bool) (p t len : ℕ) → straight ≡ true → ys ≡ onto (p ∷ t ∷ len ∷ []) (take (length xs - at) (drop at xs)) → take at xs ++ (ys ++ drop (length xs - at) (drop at xs)) ≡ take at xs ++ onto (tile_words (listed straight (record { p = p; t = t; len = len }) ∷ [])) (drop at xs)
unfolding tile_words
tail_straight at xs ys straight p t len s e = rw s (tail_put at xs ys (p ∷ t ∷ len ∷ []) e)

pub tail_crossed : (at : ℕ) (xs ys : List ℕ) (straight : Bool) (p t len : ℕ) → straight ≡ false → ys ≡ onto (t ∷ p ∷ len ∷ []) (take (length xs - at) (drop at xs)) → take at xs ++ (ys ++ drop (length xs - at) (drop at xs)) ≡ take at xs ++ onto (tile_words (listed straight (record { p = p; t = t; len = len }) ∷ [])) (drop at xs)
unfolding tile_words
tail_crossed at xs ys straight p t len s e = rw s (tail_put at xs ys (t ∷ p ∷ len ∷ []) e)

-- Words written to the start of the tail that begins after those written.
pub onto_tail : (front s b : List ℕ) (k : ℕ) → length front ≡ k → take k (onto front b) ++ onto s (drop k (onto front b)) ≡ onto (front ++ s) b
onto_tail front s b k e =
    rw (
      take_at front (drop (length front) b) k e,
      drop_at front (drop (length front) b) k e,
      drop-drop (length s) (length front) b,
      length-append front s,
      append_assoc,
    )
    refl

-- ---- tiles listed one after another
pub tile_words_append : (es fs : List Entry) → tile_words (es ++ fs) ≡ tile_words es ++ tile_words fs
unfolding tile_words
tile_words_append [] fs = refl
tile_words_append (e ∷ es) fs = rw (tile_words_append es fs) refl

pub length_tile_words : (es : List Entry) → length (tile_words es) ≡ 3 * length es
unfolding tile_words
length_tile_words [] = refl
length_tile_words (e ∷ es) = omega (arith, length_tile_words es)

-- What list_tile leaves is the buffer with one tile more.
pub listed_more : (es fs : List Entry) (b : List ℕ) → take (3 * length es) (onto (tile_words es) b) ++ onto (tile_words fs) (drop (3 * length es) (onto (tile_words es) b)) ≡ onto (tile_words (es ++ fs)) b
listed_more es fs b = rw (tile_words_append es fs) (onto_tail (tile_words es) (tile_words fs) b (3 * length es) (length_tile_words es))

-- And the buffer is as long as it was.
pub length_listed : (count : ℕ) (b : List ℕ) (x : Entry) → 3 * (count + 1) ≤ length b → length (take (3 * count) b ++ onto (tile_words (x ∷ [])) (drop (3 * count) b)) ≡ length b
length_listed count b x h =
    let w = tile_words (x ∷ []) in
    let d = length-drop (3 * count) b in
    let o : length (onto w (drop (3 * count) b)) ≡ length (drop (3 * count) b) =
    length_onto w (drop (3 * count) b) (omega (arith, d, length_tile_words (x ∷ []))) in
    omega (arith, length-append (take (3 * count) b) (onto w (drop (3 * count) b)), o, d, length-take (3 * count) b)
