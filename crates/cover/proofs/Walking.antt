-- The walk along the tiles of a buffer. A tile that is long enough comes first in what is left, so passing it moves its words from there into
-- the sum; at the first that is shorter, and at the end, nothing is left.
-- Assumes nothing.
use Prim.Native.Nat.{ℕ, suc, ◌+◌, ◌*◌, ◌^◌, ◌≤◌, ◌<◌}
use native.Mathlib.Omega.{arith}
use native.Mathlib.Numerals.{add-one}
use mathlib.Core.Path.{◌≡◌, refl, ap}
use mathlib.Core.List.{List, [], ◌∷◌}
use borrow.Author.Tests.{le-leb, lt-leb}
use lib.ListN.{length, drop, get_or, drop_of_length-le}
use Rattle.tiling.specs.Listing.{Entry, covered}
use Rattle.tiling.specs.Demand.{tiles_in}
use Rattle.tiling.proofs.Tiles.{length_tiles_in, tile_at, tiles_in_from}
use Rattle.cover.specs.Walked.{first_long, Walked}

-- ---- the tiles that a list begins with
pub first_here : (n : ℕ) (e : Entry) (es : List Entry) → n ≤ e.len → first_long n (e ∷ es) ≡ e ∷ first_long n es
unfolding first_long
first_here n e es h = rw (first_long, le-leb n e.len h) refl

pub first_none : (n : ℕ) (e : Entry) (es : List Entry) → e.len < n → first_long n (e ∷ es) ≡ []
unfolding first_long
first_none n e es h = rw (first_long, lt-leb n e.len h) refl

first_all : (es : List Entry) → first_long 0 es ≡ es
unfolding first_long
first_all [] = refl
first_all (e ∷ es) = rw (first_here 0 e es (omega arith), first_all es) refl

-- ---- one turn of the walk
pub record Passing (tiles : List ℕ) (count least passed words : ℕ) : Type 0 where
  pub whole : 3 * count ≤ length tiles
  pub few : covered (tiles_in count tiles) ≤ 2048
  pub walked : Walked (tiles_in count tiles) least passed words

module _ (tiles : List ℕ) (count least passed words : ℕ) (w : Passing tiles count least passed words) where
  abbrev all : List Entry
  all = tiles_in count tiles

  -- What a length takes of the tiles that are left, where the next one has it.
  next_taken : passed < count → (n : ℕ) → n ≤ get_or tiles (3 * passed + 2) 0 → covered (first_long n (drop passed all)) ≡ get_or tiles (3 * passed + 2) 0 + covered (first_long n (drop (passed + 1) all))
  unfolding covered
  next_taken h n le =
      rw (tiles_in_from count passed tiles h, first_here n (tile_at tiles passed) (drop (suc passed) all) le, ← add-one passed) refl

  -- The sum stays small: for length 0 every tile is taken.
  pub passing_small : passed < count → words + get_or tiles (3 * passed + 2) 0 < 2 ^ 32
  passing_small h =
      omega (arith, w.few, ap covered (first_all all), w.walked.sum 0 (omega arith), next_taken h 0 (omega arith))

  pub passing_more : passed < count → least ≤ get_or tiles (3 * passed + 2) 0 → Passing tiles count least (passed + 1) (words + get_or tiles (3 * passed + 2) 0)
  passing_more h le =
      record {
        whole = w.whole;
        few = w.few;
        walked =
            record {
              within = omega (arith, length_tiles_in count tiles);
              sum = λ n k. omega (arith, w.walked.sum n k, next_taken h n (omega arith));
            };
      }

  -- Behind the last tile all are passed.
  pub passing_through : count ≤ passed → Walked all least count words
  passing_through h = let e : passed ≡ count = omega (arith, w.walked.within, length_tiles_in count tiles) in rw e at w.walked

  -- The walk ends at a tile that is shorter, or behind the last.
  nothing_left : covered (first_long least (drop passed all)) ≡ 0 → words ≡ covered (first_long least all)
  nothing_left e = omega (arith, w.walked.sum least (omega arith), e)

  pub passing_stopped : passed < count → get_or tiles (3 * passed + 2) 0 < least → words ≡ covered (first_long least all)
  unfolding covered
  passing_stopped h less =
      nothing_left (rw (tiles_in_from count passed tiles h, first_none least (tile_at tiles passed) (drop (suc passed) all) less) refl)

  pub passing_ended : count ≤ passed → words ≡ covered (first_long least all)
  unfolding covered first_long
  passing_ended h = nothing_left (rw (drop_of_length-le all {i = passed} (omega (arith, length_tiles_in count tiles))) refl)
