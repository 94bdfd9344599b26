-- Demand 3 of what a comparison answers and leaves in the tile buffer, whichever engine made it: the tiles read back from the buffer are the
-- listing, and none after a refusal, so all that holds of the listing holds of them.
-- Assumes nothing.
use Prim.Native.Nat.{ℕ, zero, suc, ◌+◌, ◌≤◌}
use native.Mathlib.Omega.{arith}
use mathlib.Core.Path.{◌≡◌, refl, sym, ◌∙◌, ap}
use mathlib.Core.List.{List, [], map}
use lib.ListN.{length, replicate}
use Rattle.refusal.specs.Refusal.{outcome}
use Rattle.tiling.specs.Each.{Each, none}
use Rattle.tiling.specs.Greedy.{Begins}
use Rattle.tiling.specs.Listing.{Entry, listing, outside_listing, covered}
use Rattle.tiling.specs.Comparing.{Comparable}
use Rattle.tiling.specs.declared.Compared.{Compared}
use Rattle.tiling.specs.Answer.{compared, tile_buffer, Compares}
use Rattle.tiling.specs.Demand.{long, exchanged, EqualStarts, tiles_in, tiles_of, Tiled, Demands, Exchanges}
use Rattle.tiling.proofs.Replaced.{listing_outside}
use Rattle.tiling.proofs.Demand.{listing_tiled, listing_begins, equal_starts, exchange, exchange_count, exchange_covered, exchange_score}
use Rattle.tiling.proofs.Shift.{tiled_shift}
use Rattle.tiling.proofs.Tiles.{tiles_read}

-- ---- a comparison, accepted or refused
listed_of : (r : ℕ) (tiles : List Entry) (total : ℕ) (b : List ℕ) → tiles_of (compared r tiles total) (tile_buffer r tiles b) ≡ outcome r tiles []
unfolding tiles_in
listed_of zero tiles total b = tiles_read tiles b
listed_of (suc r) tiles total b = refl

module _ {r : ℕ} {first second : List ℕ} {minimum : ℕ} {ws b : List ℕ} {a : Compared} {ws' b' : List ℕ} (c : Compares r first second minimum ws b a ws' b') where
  -- The tiles in the buffer are the listing; after a refusal there are none.
  listed : tiles_of a b' ≡ outcome r (listing first second minimum) []
  listed = rw (c.answer, c.tiles) (listed_of r (listing first second minimum) (length first + length second) b)

-- ---- an accepted comparison
module _ {r : ℕ} {first second : List ℕ} {minimum : ℕ} {ws b : List ℕ} {a : Compared} {ws' b' : List ℕ} (c : Compares r first second minimum ws b a ws' b') (accepted : a.refusal ≡ 0) where
  pub answers_number : r ≡ 0
  answers_number = sym (ap (λ x. x.refusal) c.answer) ∙ accepted

  answer_is : a ≡ compared 0 (listing first second minimum) (length first + length second)
  answer_is = rw answers_number at c.answer

  pub answers_listed : tiles_of a b' ≡ listing first second minimum
  answers_listed = rw answers_number at (listed c)

  -- They are the tiles of an outside comparison.
  pub answers_outside : tiles_of a b' ≡ outside_listing first second minimum
  answers_outside = answers_listed ∙ sym (listing_outside first second minimum)

  pub answers_covered : a.covered ≡ covered (listing first second minimum)
  answers_covered = ap (λ x. x.covered) answer_is

  -- The workspace is zero, and where the sequences can be compared the answer and the tiles are as demanded.
  pub answers_zero : ws' ≡ replicate (length ws) 0
  answers_zero = rw answers_number at c.workspace

  pub answers_demands : Comparable first second minimum → Demands first second minimum a b'
  answers_demands k =
      let one = k.least in
      let tiled : Tiled first second minimum (tiles_of a b') = rw answers_listed (listing_tiled first second minimum one) in
      let covered-listed : a.covered ≡ covered (tiles_of a b') = rw answers_listed answers_covered in
      record {
        tiled = tiled;
        shifted = tiled_shift k.first_short k.second_short one tiled;
        tiles = rw answers_listed (ap (λ x. x.tiles) answer_is);
        covered = covered-listed;
        score = rw answer_is refl;
        at_one = λ e. covered-listed ∙ tiled.at_one e;
        within_first = omega (arith, covered-listed, tiled.within_first);
        within_second = omega (arith, covered-listed, tiled.within_second);
      }

-- ---- a sequence with itself
equal_outcome : (r : ℕ) {tiles : List Entry} → Each EqualStarts tiles → Each EqualStarts (outcome r tiles [])
equal_outcome zero h = h
equal_outcome (suc r) h = none

-- Each tile has equal starts.
pub answers_equal : {r : ℕ} {s : List ℕ} {minimum : ℕ} {ws b : List ℕ} {a : Compared} {ws' b' : List ℕ} → Compares r s s minimum ws b a ws' b' → Each EqualStarts (tiles_of a b')
answers_equal {r = r} {s = s} {minimum = minimum} c = rw (listed c) (equal_outcome r (equal_starts s minimum))

-- ---- two comparisons with the sequences exchanged
exchanged_outcome : (r : ℕ) (tiles : List Entry) → outcome r (map exchanged tiles) [] ≡ map exchanged (outcome r tiles [])
exchanged_outcome zero tiles = refl
exchanged_outcome (suc r) tiles = refl

-- Where the numbers of their refusals are equal, the second has the sides of each tile exchanged.
pub answers_exchange : {r r' : ℕ} {first second : List ℕ} {minimum : ℕ} {ws b ws₁ b₁ : List ℕ} {a a' : Compared} {ws' b' ws₁' b₁' : List ℕ} → Compares r first second minimum ws b a ws' b' → Compares r' second first minimum ws₁ b₁ a' ws₁' b₁' → r' ≡ r → Exchanges a b' a' b₁'
answers_exchange {r = r} {first = first} {second = second} {minimum = minimum} c c' e =
    record {
      refusal = rw (c.answer, c'.answer) e;
      sides = listed c' ∙ (rw (e, exchange first second minimum) (exchanged_outcome r (listing first second minimum)) ∙ ap (λ es. map exchanged es) (sym (listed c)));
      tiles = rw (c.answer, c'.answer, e, exchange_count first second minimum) refl;
      covered = rw (c.answer, c'.answer, e, exchange_covered first second minimum) refl;
      score = rw (c.answer, c'.answer, e, exchange_score first second minimum) refl;
    }

-- ---- two accepted comparisons of one pair, at a minimum and at a greater one
-- The tiles at the greater are the first of those at the minimum, and the others are shorter than it.
pub answers_begin : {r r' : ℕ} {first second : List ℕ} {minimum longer : ℕ} {ws b ws₁ b₁ : List ℕ} {a a' : Compared} {ws' b' ws₁' b₁' : List ℕ} → Compares r first second minimum ws b a ws' b' → Compares r' first second longer ws₁ b₁ a' ws₁' b₁' → a.refusal ≡ 0 → a'.refusal ≡ 0 → 1 ≤ minimum → minimum ≤ longer → Begins long longer (tiles_of a' b₁') (tiles_of a b')
answers_begin {first = first} {second = second} {minimum = minimum} {longer = longer} c c' z z' one h =
    rw (answers_listed c z, answers_listed c' z') (listing_begins first second minimum longer one h)
