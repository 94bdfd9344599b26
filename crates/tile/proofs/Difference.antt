-- The difference of two numbers as a signed word. It is no greater in size than the greater of the two, so where both are below 2,048 it
-- fits, and the machine's subtraction is the subtraction of integers.
-- Assumes nothing.
use Prim.Native.Nat.{ℕ, zero, suc, ◌≤◌, ◌<◌, max}
use native.Mathlib.Nat.{lt_trans, lt_of_le_of_lt}
use native.Mathlib.Omega.{arith}
use mathlib.Core.Path.{◌≡◌, refl}
use mathlib.Core.Bool.{Bool, true, false}
use lib.Dec.{ltb, lit<}
use lib.IntN.{pos, sub_ℕ, ◌-ℤ◌}
use lib.Signed.{mag}
use mir.Syntax.{w32}
use mir.Val.{SFits, of_z, to_z}
use mir.Facts.{to_z_pos, to_z-of_z}
use Rattle.tiling.specs.Listing.{shift}

-- The size of a difference, where `mag` of a negative number is one less than its size.
pub difference_size : (a b : ℕ) → mag (pos a -ℤ pos b) ≤ max a b
difference_size a zero = omega arith
difference_size a (suc b) = go (ltb a (suc b)) refl
  where
    go : (t : Bool) → ltb a (suc b) ≡ t → mag (sub_ℕ a (suc b)) ≤ max a (suc b)
    go true e = rw e (omega arith)
    go false e = rw e (omega arith)

-- A number below 2,048 read as signed is itself.
signed_small : (a : ℕ) → a < 2048 → to_z w32 a ≡ pos a
signed_small a h = to_z_pos w32 (lt_trans h (lit< tt))

pub difference_fits : (a b : ℕ) → a < 2048 → b < 2048 → SFits w32 (to_z w32 a -ℤ to_z w32 b)
difference_fits a b h k =
    let m : max a b < 2048 = omega arith in
    rw (signed_small a h, signed_small b k) (record { sfits = lt_of_le_of_lt (difference_size a b) (lt_trans m (lit< tt)) })

pub shifted : (first second : ℕ) → first < 2048 → second < 2048 → (len : ℕ) → to_z w32 (of_z w32 (to_z w32 second -ℤ to_z w32 first)) ≡ shift (record { first = first; second = second; len = len })
unfolding shift
shifted first second h k len = rw (to_z-of_z (difference_fits second first k h), signed_small first h, signed_small second k) refl
