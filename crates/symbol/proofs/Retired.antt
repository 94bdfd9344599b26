-- What the later layers may know of matching words. A retired call is replaced by a call of a code that is not retired, so replacing twice is
-- replacing once, and no word becomes a call or stops being one. Words that match are calls that are equal once replaced; words that are
-- replaced already match just when they are equal calls as they stand.
-- Assumes nothing.
use Prim.Native.Nat.{ℕ, zero, suc, ◌+◌, ◌-◌, ◌*◌, ◌%◌, ◌^◌, ◌≤◌, ◌<◌}
use native.Mathlib.Omega.{arith}
use mathlib.Core.Path.{◌≡◌, refl, sym, ◌∙◌}
use mathlib.Core.Bool.{Bool, true, false, ◌&&◌}
use mathlib.Core.List.{List, [], ◌∷◌}
use borrow.Author.Tests.{le-leb, leb-true, ltb-true}
use lib.Dec.{leb, ltb}
use mir.Val.{bool_byte}
use lib.ListN.{get_or}
use Rattle.symbol.specs.Word.{code, is_call, replacements, is_retired, replaced, equal_calls, matches}
use Rattle.symbol.specs.Sequence.{every}
use Rattle.symbol.proofs.Word.{and_both, and_left, and_right, same, call_in, call_range, calls_equal, calls_call, calls_self, no_call_left, no_call_right}

-- ---- the retired calls as a range of numbers
pub record Retired (w : ℕ) : Type 0 where
  pub least : 2 ^ 30 + 65000 ≤ w
  pub most : w ≤ 2 ^ 30 + 65015

pub retired_range : (w : ℕ) → is_retired w ≡ true → Retired w
unfolding is_retired code
retired_range w e =
    let c = call_range w (and_left (is_call w) _ e) in
    let r : (leb 65000 (code w) && leb (code w) 65015) ≡ true = and_right (is_call w) _ e in
    let l : 65000 ≤ code w = leb-true _ _ (and_left _ _ r) in
    let m : code w ≤ 65015 = leb-true _ _ (and_right (leb 65000 (code w)) _ r) in
    record { least = omega (arith, c, l); most = omega (arith, c, m) }

retired_in : (w : ℕ) → 2 ^ 30 + 65000 ≤ w → w ≤ 2 ^ 30 + 65015 → is_retired w ≡ true
unfolding is_retired code
retired_in w h k = and_both (call_in w (omega arith) (omega arith)) (and_both (le-leb 65000 (code w) (omega arith)) (le-leb (code w) 65015 (omega arith)))

pub retired_test : (w : ℕ) → (leb 0x4000_fde8 w && leb w 0x4000_fdf7) ≡ is_retired w
retired_test w =
    same _ _
    (λ e. retired_in w (leb-true _ _ (and_left _ _ e)) (leb-true _ _ (and_right (leb 0x4000_fde8 w) _ e)))
    (λ e. let r = retired_range w e in and_both (le-leb _ _ r.least) (le-leb _ _ r.most))

-- ---- the table: a test of each entry, computed once, holds of what stands at any index, and of the 0 past the end
every_at : (test : ℕ → Bool) (xs : List ℕ) → every test xs ≡ true → test 0 ≡ true → (i : ℕ) → test (get_or xs i 0) ≡ true
unfolding every
every_at test [] e z i = z
every_at test (x ∷ xs) e z zero = and_left (test x) _ e
every_at test (x ∷ xs) e z (suc i) = every_at test xs (and_right (test x) _ e) z i

-- No code that stands for a retired one is retired.
pub entry_below : (i : ℕ) → get_or replacements i 0 < 65000
unfolding every replacements
entry_below i = ltb-true (get_or replacements i 0) 65000 (every_at (λ x. ltb x 65000) replacements refl refl i)

-- ---- the replaced word
pub replaced_none : (w : ℕ) → is_retired w ≡ false → replaced w ≡ w
unfolding replaced
replaced_none w e = rw (replaced, e) refl

pub replaced_some : (w : ℕ) → is_retired w ≡ true → replaced w ≡ 2 ^ 30 + get_or replacements (code w - 65000) 0
unfolding replaced
replaced_some w e = rw (replaced, e) refl

-- A replaced word is no retired call.
pub replaced_current : (w : ℕ) → is_retired (replaced w) ≡ false
replaced_current w = go (is_retired w) refl
  where
    other : (t : Bool) → is_retired (replaced w) ≡ t → is_retired w ≡ true → is_retired (replaced w) ≡ false
    other true f e = absurd (omega (arith, retired_range (replaced w) f, replaced_some w e, entry_below (code w - 65000)))
    other false f e = f

    go : (t : Bool) → is_retired w ≡ t → is_retired (replaced w) ≡ false
    go true e = other (is_retired (replaced w)) refl e
    go false e = rw (replaced_none w e) e

pub replaced_twice : (w : ℕ) → replaced (replaced w) ≡ replaced w
replaced_twice w = replaced_none (replaced w) (replaced_current w)

-- A call stays a call, and nothing becomes one.
pub call_replaced : (w : ℕ) → is_call (replaced w) ≡ is_call w
call_replaced w = go (is_retired w) refl
  where
    go : (t : Bool) → is_retired w ≡ t → is_call (replaced w) ≡ is_call w
    go true e =
        let r = retired_range w e in
        let n = replaced_some w e in
        let b = entry_below (code w - 65000) in
        call_in (replaced w) (omega (arith, n)) (omega (arith, n, b)) ∙ sym (call_in w (omega (arith, r)) (omega (arith, r)))
    go false e = rw (replaced_none w e) refl

-- A word below the calls is itself, the word 0 among them.
pub replaced_below : (w : ℕ) → w < 2 ^ 30 → replaced w ≡ w
replaced_below w h = go (is_retired w) refl
  where
    go : (t : Bool) → is_retired w ≡ t → replaced w ≡ w
    go true e = absurd (omega (arith, retired_range w e))
    go false e = replaced_none w e

-- ---- matching
-- Words that match are equal once they are replaced, and calls.
pub match_equal : (a b : ℕ) → matches a b ≡ true → replaced a ≡ replaced b
unfolding matches
match_equal a b e = calls_equal (replaced a) (replaced b) e

pub match_call : (a b : ℕ) → matches a b ≡ true → is_call a ≡ true
unfolding matches
match_call a b e = sym (call_replaced a) ∙ calls_call (replaced a) (replaced b) e

-- A call matches itself.
pub match_self : (a : ℕ) → is_call a ≡ true → matches a a ≡ true
unfolding matches
match_self a e = calls_self (replaced a) (call_replaced a ∙ e)

pub match_swap : (a b : ℕ) → matches a b ≡ true → matches b a ≡ true
unfolding matches
match_swap a b e = rw (← match_equal a b e) (match_self a (match_call a b e))

-- Two words that match a third match one another.
pub match_both : (a b c : ℕ) → matches a b ≡ true → matches a c ≡ true → matches b c ≡ true
unfolding matches
match_both a b c e f = rw (← match_equal a b e) f

-- Other words match nothing, the word 0 and the no-call among them.
pub no_match_left : (a b : ℕ) → is_call a ≡ false → matches a b ≡ false
unfolding matches
no_match_left a b e = no_call_left (replaced a) (replaced b) (call_replaced a ∙ e)

pub no_match_right : (a b : ℕ) → is_call b ≡ false → matches a b ≡ false
unfolding matches
no_match_right a b e = no_call_right (replaced a) (replaced b) (call_replaced b ∙ e)

-- Whether two words match, their replaced words tell; and of words that are replaced already, 01's match.
pub match_replaced : (a b : ℕ) → matches (replaced a) (replaced b) ≡ matches a b
unfolding matches
match_replaced a b = rw (replaced_twice a, replaced_twice b) refl

-- ---- what the code computes: one of two words, by a test that counts as 1 or 0
pub chosen_first : (t : Bool) (x : ℕ) → x < 2 ^ 32 → bool_byte t * x < 2 ^ 32
chosen_first true x h = omega arith
chosen_first false x h = omega arith

pub chosen_second : (t : Bool) (y : ℕ) → y < 2 ^ 32 → (1 - bool_byte t) * y < 2 ^ 32
chosen_second true y h = omega arith
chosen_second false y h = omega arith

pub chosen_fits : (t : Bool) (x y : ℕ) → x < 2 ^ 32 → y < 2 ^ 32 → bool_byte t * x + (1 - bool_byte t) * y < 2 ^ 32
chosen_fits true x y h k = omega arith
chosen_fits false x y h k = omega arith

pub entry_fits : (i : ℕ) → 0x4000_0000 + get_or replacements i 0 < 2 ^ 32
entry_fits i = omega (arith, entry_below i)

-- The entry that is read: a retired code is as far from the first as its lower four bits and 8, modulo 16, say.
pub replaced_by : (w : ℕ) (t : Bool) → t ≡ is_retired w → bool_byte t * (0x4000_0000 + get_or replacements ((w % 16 + 8) % 16) 0) + (1 - bool_byte t) * w ≡ replaced w
unfolding code
replaced_by w true e =
    let r = retired_range w (sym e) in
    let i : (w % 16 + 8) % 16 ≡ code w - 65000 = omega (arith, r) in
    rw i (omega (arith, replaced_some w (sym e)))
replaced_by w false e = omega (arith, replaced_none w (sym e))

-- The match as it is computed, from the two words replaced.
pub match_by : (a b x y : ℕ) (r : Bool) → r ≡ equal_calls x y → x ≡ replaced a → y ≡ replaced b → r ≡ matches a b
unfolding matches
match_by a b x y r e p q = rw (p, q) at e
