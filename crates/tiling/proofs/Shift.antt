-- The shift of a listed tile. A difference is at most what it is taken from, and at least the negation of what is taken; a tile of one word or
-- more in sequences of at most 2,048 words starts at 2,047 or before on both.
-- Assumes nothing.
use Prim.Native.Nat.{ℕ, zero, suc, ◌≤◌}
use native.Mathlib.Nat.{not-suc-le-zero}
use native.Mathlib.Omega.{arith}
use mathlib.Core.Path.{◌≡◌, refl}
use mathlib.Core.Bool.{Bool, true, false}
use mathlib.Core.List.{List}
use lib.Dec.{ltb, le→leb}
use lib.IntN.{pos, negsuc, neg_ℤ, sub_ℕ, ◌-ℤ◌}
use lib.ListN.{length}
use lib.Signed.{◌≤ℤ◌}
use Rattle.tiling.specs.Each.{Each}
use Rattle.tiling.specs.Listing.{Entry, listing, shift}
use Rattle.tiling.specs.Demand.{Stands, Shifted, Tiled}
use Rattle.tiling.proofs.Each.{each_both}
use Rattle.tiling.proofs.Demand.{listing_tiled}

-- ---- a difference of two numbers
pos_le : {m n : ℕ} → m ≤ n → pos m ≤ℤ pos n
pos_le {m} {n} h = record { le = le→leb m n h }

below_le : {m n : ℕ} → m ≤ n → negsuc n ≤ℤ negsuc m
below_le {m} {n} h = record { le = le→leb m n h }

pub difference_most : (a b n : ℕ) → a ≤ n → (pos a -ℤ pos b) ≤ℤ pos n
difference_most a zero n h = pos_le (omega arith)
difference_most a (suc b) n h = go (ltb a (suc b)) refl
  where
    go : (t : Bool) → ltb a (suc b) ≡ t → sub_ℕ a (suc b) ≤ℤ pos n
    go true e = rw e (record { le = tt })
    go false e = rw e (pos_le (omega arith))

pub difference_least : (a b n : ℕ) → b ≤ n → neg_ℤ (pos n) ≤ℤ (pos a -ℤ pos b)
difference_least a zero zero h = pos_le (omega arith)
difference_least a zero (suc n) h = record { le = tt }
difference_least a (suc b) zero h = absurd (not-suc-le-zero h)
difference_least a (suc b) (suc n) h = go (ltb a (suc b)) refl
  where
    go : (t : Bool) → ltb a (suc b) ≡ t → negsuc n ≤ℤ sub_ℕ a (suc b)
    go true e = rw e (below_le (omega arith))
    go false e = rw e (record { le = tt })

-- ---- a tile
stands_shifted : (first second : List ℕ) → length first ≤ 2048 → length second ≤ 2048 → (e : Entry) → Stands first second e → 1 ≤ e.len → Shifted e
unfolding shift
stands_shifted first second f s e r one =
    record {
      least = difference_least e.second e.first 2047 (omega (arith, r.in_first));
      most = difference_most e.second e.first 2047 (omega (arith, r.in_second));
    }

pub tiled_shift : {first second : List ℕ} {minimum : ℕ} {tiles : List Entry} → length first ≤ 2048 → length second ≤ 2048 → 1 ≤ minimum → Tiled first second minimum tiles → Each Shifted tiles
tiled_shift {first = first} {second = second} f s one t = each_both (λ e r h. stands_shifted first second f s e r (omega arith)) t.stands t.each_long

-- Each tile listed for two sequences.
pub listing_shift : (first second : List ℕ) (minimum : ℕ) → length first ≤ 2048 → length second ≤ 2048 → 1 ≤ minimum → Each Shifted (listing first second minimum)
listing_shift first second minimum f s one = tiled_shift f s one (listing_tiled first second minimum one)
