-- Words as they stand: a call is a word in one range of numbers, and 01's match holds of two words just when they are equal calls.
-- Assumes nothing.
use Prim.Native.Nat.{ℕ, ◌≤◌, ◌<◌, ◌+◌, ◌/◌, ◌^◌}
use native.Mathlib.Omega.{arith}
use mathlib.Core.Path.{◌≡◌, refl, sym, ◌∙◌}
use mathlib.Core.Bool.{Bool, true, false, ◌&&◌, ◌||◌, and-false}
use lib.Bits.{bit_or, bit_xor, or_add_and, xor_add_and, and_le_l, and_le_r, xor_self}
use lib.Dec.{eqb}
use borrow.Author.Tests.{eq-eqb, ne_eqb, lt-ltb, eqb-true, ltb-true}
use Rattle.symbol.specs.Word.{kind, low, code, is_call, Call, is_no_call, no_call, is_sound, equal_calls}

-- ---- a conjunction of tests
pub and_both : {a b : Bool} → a ≡ true → b ≡ true → (a && b) ≡ true
and_both p q = rw p q

pub and_left : (a b : Bool) → (a && b) ≡ true → a ≡ true
and_left true b e = refl
and_left false b e = e

pub and_right : (a b : Bool) → (a && b) ≡ true → b ≡ true
and_right true b e = e
and_right false b e = let z : false ≡ true = e in cc

-- Two tests are the same where each is true if the other is.
pub same : (a b : Bool) → (a ≡ true → b ≡ true) → (b ≡ true → a ≡ true) → a ≡ b
same true b f g = sym (f refl)
same false true f g = g refl
same false false f g = refl

-- ---- the range of the calls
pub call_in : (w : ℕ) → 2 ^ 30 ≤ w → w < 2 ^ 30 + 2 ^ 16 → is_call w ≡ true
unfolding is_call kind low
call_in w h k = and_both (eq-eqb (kind w) 1 (omega arith)) (lt-ltb (low w) (2 ^ 16) (omega arith))

pub call_below : (w : ℕ) → w < 2 ^ 30 → is_call w ≡ false
unfolding is_call kind
call_below w h = rw (ne_eqb (kind w) 1 (omega arith))

pub call_range : (w : ℕ) → is_call w ≡ true → Call w
unfolding is_call kind low
call_range w e =
    let k : kind w ≡ 1 = eqb-true _ _ (and_left _ _ e) in
    let l : low w < 2 ^ 16 = ltb-true _ _ (and_right (eqb (kind w) 1) _ e) in
    record { least = omega arith; most = omega arith }

-- ---- equal calls
pub calls_equal : (a b : ℕ) → equal_calls a b ≡ true → a ≡ b
unfolding equal_calls code
calls_equal a b e =
    let x = call_range a (and_left (is_call a) (is_call b) (and_left _ _ e)) in
    let y = call_range b (and_right (is_call a) (is_call b) (and_left _ _ e)) in
    let z : code a ≡ code b = eqb-true _ _ (and_right (is_call a && is_call b) _ e) in
    omega (arith, x, y, z)

pub calls_call : (a b : ℕ) → equal_calls a b ≡ true → is_call a ≡ true
unfolding equal_calls
calls_call a b e = and_left (is_call a) (is_call b) (and_left _ _ e)

pub calls_self : (a : ℕ) → is_call a ≡ true → equal_calls a a ≡ true
unfolding equal_calls
calls_self a e = rw (e, eq-eqb (code a) (code a) refl)

-- Any other word is unlike every word, the word 0 and the no-call among them.
pub no_call_left : (a b : ℕ) → is_call a ≡ false → equal_calls a b ≡ false
unfolding equal_calls
no_call_left a b e = rw e

pub no_call_right : (a b : ℕ) → is_call b ≡ false → equal_calls a b ≡ false
unfolding equal_calls
no_call_right a b e = rw (e, and-false (is_call a))

-- ---- what the code tests: a number that is 0 just where both of its parts are, and a part that is 0 just where two words are equal
or_zero : (x y : ℕ) → bit_or x y ≡ 0 → (x ≡ 0) × (y ≡ 0)
or_zero x y e = (omega (arith, or_add_and x y, and_le_r x y), omega (arith, or_add_and x y, and_le_l x y))

xor_zero : (x y : ℕ) → bit_xor x y ≡ 0 → x ≡ y
xor_zero x y e = omega (arith, xor_add_and x y, and_le_l x y, and_le_r x y)

xor_equal : (x y : ℕ) → x ≡ y → bit_xor x y ≡ 0
xor_equal x y e = rw e (xor_self y)

-- The upper half of a call is 0x4000, and of no other word.
call_half : (w : ℕ) → is_call w ≡ true → w / 0x1_0000 ≡ 0x4000
call_half w e = omega (arith, call_range w e)

half_call : (w : ℕ) → w / 0x1_0000 ≡ 0x4000 → is_call w ≡ true
half_call w e = call_in w (omega arith) (omega arith)

pub call_test : (w : ℕ) → eqb (w / 0x1_0000) 0x4000 ≡ is_call w
call_test w = same _ _ (λ e. half_call w (eqb-true _ _ e)) (λ e. eq-eqb _ _ (call_half w e))

pub no_call_test : (w : ℕ) → eqb w no_call ≡ is_no_call w
unfolding is_no_call kind low
no_call_test w = same _ _ there back
  where
    there : eqb w no_call ≡ true → is_no_call w ≡ true
    there e = let one : w ≡ no_call = eqb-true _ _ e in and_both (eq-eqb (kind w) 2 (omega arith)) (eq-eqb (low w) 0 (omega arith))

    back : is_no_call w ≡ true → eqb w no_call ≡ true
    back e =
        let k : kind w ≡ 2 = eqb-true _ _ (and_left _ _ e) in
        let l : low w ≡ 0 = eqb-true _ _ (and_right (eqb (kind w) 2) _ e) in
        eq-eqb w no_call (omega arith)

-- A no-call is the one word that is.
pub no_call_is : (w : ℕ) → is_no_call w ≡ true → w ≡ no_call
no_call_is w e = eqb-true w no_call (no_call_test w ∙ e)

pub sound_test : (w : ℕ) (r s : Bool) → r ≡ is_call w → s ≡ is_no_call w → (r || s) ≡ is_sound w
unfolding is_sound
sound_test w r s e f = rw (e, f)

pub calls_test : (a b : ℕ) → eqb (bit_or (bit_xor a b) (bit_xor (a / 0x1_0000) 0x4000)) 0 ≡ equal_calls a b
calls_test a b = same _ _ there back
  where
    there : eqb (bit_or (bit_xor a b) (bit_xor (a / 0x1_0000) 0x4000)) 0 ≡ true → equal_calls a b ≡ true
    there e =
        let z = or_zero _ _ (eqb-true _ _ e) in
        let equal : a ≡ b = xor_zero _ _ z.0 in
        rw (← equal) (calls_self a (half_call a (xor_zero _ _ z.1)))

    back : equal_calls a b ≡ true → eqb (bit_or (bit_xor a b) (bit_xor (a / 0x1_0000) 0x4000)) 0 ≡ true
    back e = rw (xor_equal a b (calls_equal a b e), xor_equal _ _ (call_half a (calls_call a b e)))
