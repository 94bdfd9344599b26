-- Buckets and the entries of the filter are remainders, so they lie within their arrays.
-- Assumes nothing.
use Prim.Native.Nat.{ℕ, ◌*◌, ◌/◌, ◌%◌, ◌^◌, ◌≤◌, ◌<◌}
use native.Mathlib.Nat.{mod-lt}
use native.Mathlib.Omega.{arith}
use mathlib.Core.Path.{◌≡◌, refl}
use Rattle.window.specs.Hash.{bucket}
use Rattle.index.specs.Indexed.{slot, place}

pub bucket_is : (k h : ℕ) → h % k ≡ bucket k h
unfolding bucket
bucket_is k h = refl

pub bucket_small : (k h : ℕ) → 1 ≤ k → k ≤ 1024 → h % k < 1024
bucket_small k h a b = omega (arith, mod-lt h a)

pub bucket_below : (k h : ℕ) → 1 ≤ k → k ≤ 1024 → bucket k h < 1024
unfolding bucket
bucket_below k h a b = bucket_small k h a b

pub slot_is : (h : ℕ) → h * 2654435769 % 2 ^ 32 / 2 ^ 20 ≡ slot h
unfolding slot
slot_is h = refl

pub slot_small : (h : ℕ) → h * 2654435769 % 2 ^ 32 / 2 ^ 20 < 4096
slot_small h = omega arith

pub slot_below : (h : ℕ) → slot h < 4096
unfolding slot
slot_below h = slot_small h

pub place_is : (k h : ℕ) → k ≡ slot h → k / 4 ≡ place h
unfolding place
place_is k h e = rw e refl

pub place_small : (k : ℕ) → k < 4096 → k / 4 < 1024
place_small k l = omega arith
