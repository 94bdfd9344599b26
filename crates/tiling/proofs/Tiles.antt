-- The tiles of a tile buffer, one after another: the words of tile i stand from 3 i on.
-- Assumes nothing.
use Prim.Native.Nat.{ℕ, zero, suc, ◌+◌, ◌*◌, ◌<◌}
use native.Mathlib.Nat.{not-suc-le-zero, le_of_suc-le-suc}
use native.Mathlib.Omega.{arith}
use mathlib.Core.Path.{◌≡◌, refl, ap}
use mathlib.Core.List.{List, [], ◌∷◌, ◌++◌}
use lib.ListN.{length, get_or, drop}
use lib.Seq.{get_or-drop}
use Rattle.buffer.specs.Buffer.{onto}
use Rattle.tiling.specs.Each.{Each, also}
use Rattle.tiling.specs.Listing.{Entry, tile_words}
use Rattle.tiling.specs.Demand.{tiles_in}

pub length_tiles_in : (n : ℕ) (tiles : List ℕ) → length (tiles_in n tiles) ≡ n
unfolding tiles_in
length_tiles_in zero tiles = refl
length_tiles_in (suc n) tiles = ap suc (length_tiles_in n (drop 3 tiles))

-- The tile of number i.
abbrev pub tile_at : List ℕ → ℕ → Entry
tile_at tiles i = record { first = get_or tiles (3 * i) 0; second = get_or tiles (3 * i + 1) 0; len = get_or tiles (3 * i + 2) 0 }

tile_at_drop : (tiles : List ℕ) (i : ℕ) → tile_at (drop 3 tiles) i ≡ tile_at tiles (suc i)
tile_at_drop tiles i =
    let n : 3 + 3 * i ≡ 3 * suc i = omega arith in
    let n1 : 3 + (3 * i + 1) ≡ 3 * suc i + 1 = omega arith in
    let n2 : 3 + (3 * i + 2) ≡ 3 * suc i + 2 = omega arith in
    rw (get_or-drop 3 tiles (3 * i) 0, get_or-drop 3 tiles (3 * i + 1) 0, get_or-drop 3 tiles (3 * i + 2) 0, n, n1, n2) refl

-- One tile more, and those from a tile on.
pub tiles_in_more : (i : ℕ) (tiles : List ℕ) → tiles_in (i + 1) tiles ≡ tiles_in i tiles ++ (tile_at tiles i ∷ [])
unfolding tiles_in
tiles_in_more zero tiles = refl
tiles_in_more (suc i) tiles =
    let n : suc i + 1 ≡ suc (i + 1) = omega arith in
    rw (n, tiles_in_more i (drop 3 tiles), tile_at_drop tiles i) refl

pub tiles_in_from : (n i : ℕ) (tiles : List ℕ) → i < n → drop i (tiles_in n tiles) ≡ tile_at tiles i ∷ drop (suc i) (tiles_in n tiles)
unfolding tiles_in
tiles_in_from zero i tiles h = absurd (not-suc-le-zero h)
tiles_in_from (suc n) zero tiles h = refl
tiles_in_from (suc n) (suc i) tiles h = rw (← tile_at_drop tiles i) (tiles_in_from n i (drop 3 tiles) (le_of_suc-le-suc h))

-- What holds of each tile holds of the tile of number i.
pub tile_at_lem : {Q : Entry → Type 0} (n i : ℕ) (tiles : List ℕ) → Each Q (tiles_in n tiles) → i < n → Q (tile_at tiles i)
unfolding tiles_in
tile_at_lem zero i tiles all h = absurd (not-suc-le-zero h)
tile_at_lem (suc n) zero tiles (also q all) h = q
tile_at_lem {Q} (suc n) (suc i) tiles (also q all) h = rw (← tile_at_drop tiles i) (tile_at_lem {Q = Q} n i (drop 3 tiles) all (le_of_suc-le-suc h))

-- Tiles written to the start of a buffer are read back.
tiles_back : (es : List Entry) (rest : List ℕ) → tiles_in (length es) (tile_words es ++ rest) ≡ es
unfolding tiles_in tile_words
tiles_back [] rest = refl
tiles_back (e ∷ es) rest = ap (λ xs. e ∷ xs) (tiles_back es rest)

pub tiles_read : (es : List Entry) (b : List ℕ) → tiles_in (length es) (onto (tile_words es) b) ≡ es
tiles_read es b = tiles_back es (drop (length (tile_words es)) b)
