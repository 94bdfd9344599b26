-- The library spells a number in the fewest digits that hold it; these are its decimal digits as defined, and a number of 32 bits has at
-- most ten.
-- Assumes nothing.
use Prim.Native.Nat.{ℕ, zero, suc, ◌+◌, ◌*◌, ◌-◌, ◌/◌, ◌%◌, ◌^◌, ◌≤◌, ◌<◌}
use native.Mathlib.Nat.{not-suc-le-zero, le_of_suc-le-suc, pow-le-pow_right, one-le-pow}
use native.Mathlib.Decide.{dec_lt}
use native.Mathlib.Omega.{arith}
use mathlib.Core.Path.{◌≡◌, refl, ◌∙◌}
use mathlib.Core.List.{List}
use lib.Dec.{lit<}
use lib.ListN.{length, take, length-take}
use borrow.Author.Tests.{lt-ltb, le-ltb}
use Rattle.io.specs.Digits.{hex_digit_ascii, last_digits as spell}
use Rattle.lines.specs.Text.{digits, decimal}
use Rattle.lines.specs.Appended.{Appended}

pow_more : (j : ℕ) → 10 ^ suc j ≡ 10 * 10 ^ j
pow_more j = omega arith

below_pow : (j : ℕ) → j < 10 ^ j
below_pow zero = omega arith
below_pow (suc j) = omega (arith, below_pow j, pow_more j)

glyph_is : (n : ℕ) → hex_digit_ascii (n % 10) ≡ 48 + n % 10
glyph_is n = rw (lt-ltb (n % 10) 10 (omega arith)) refl

-- A number of j + 1 digits.
spelled : (j fuel n : ℕ) → n < 10 ^ suc j → (0 < j → 10 ^ j ≤ n) → j < fuel → spell 10 (suc j) n ≡ digits fuel n
unfolding digits
spelled j zero n h l k = absurd (not-suc-le-zero k)
spelled zero (suc fuel) n h l k =
    let e : n % 10 ≡ n = omega arith in
    rw (digits, glyph_is n, e, lt-ltb n 10 (omega arith)) refl
spelled (suc j) (suc fuel) n h l k =
    let p = pow_more j in
    let q = pow_more (suc j) in
    let one : 1 ≤ 10 ^ j = one-le-pow j 10 (lit< tt) in
    let least : 10 ^ suc j ≤ n = l (omega arith) in
    let tenth = spelled j fuel (n / 10) (omega arith) (λ z. omega arith) (le_of_suc-le-suc k) in
    rw (digits, glyph_is n, le-ltb n 10 (omega arith), tenth) refl

-- The fewest digits that hold n are k, as the library says it.
pub record Held (n k : ℕ) : Type 0 where
  pub some : 1 ≤ k
  pub holds : n < 10 ^ k
  pub fewest : 1 < k → 10 ^ (k - 1) ≤ n

pub spells : (n k : ℕ) → Held n k → spell 10 k n ≡ decimal n
unfolding decimal
spells n zero r = absurd (not-suc-le-zero r.some)
spells n (suc j) r = spelled j (suc n) n r.holds least (go (dec_lt 0 j))
  where
    least : 0 < j → 10 ^ j ≤ n
    least z = let e : suc j - 1 ≡ j = omega arith in rw e at (r.fewest (omega arith))

    go : Dec (0 < j) → j < suc n
    go (yes z) = omega (arith, below_pow j, least z)
    go (no z) = omega arith

pub few_digits : (n k : ℕ) → Held n k → n < 2 ^ 32 → k ≤ 10
few_digits n k r small = go (dec_lt 10 k)
  where
    go : Dec (10 < k) → k ≤ 10
    go (yes z) =
        let far : 10 ≤ k - 1 = omega arith in
        let more : 10 ^ 10 ≤ 10 ^ (k - 1) = pow-le-pow_right (lit< tt) far in
        let least : 10 ^ (k - 1) ≤ n = r.fewest (omega arith) in
        absurd (omega arith)
    go (no z) = omega arith

-- ---- a number appended: d begins with its digits
module _ (n k : ℕ) (d : List ℕ) (some : 1 ≤ k) (holds : n < 10 ^ k) (fewest : 1 < k → 10 ^ (k - 1) ≤ n) (small : n < 2 ^ 32) where
  held : Held n k
  held = record { some = some; holds = holds; fewest = fewest }

  pub digits_fit : (at room : ℕ) → at + 10 ≤ room → at + length (take k d) ≤ room
  digits_fit at room h = omega (arith, few_digits n k held small, length-take k d)

  pub number_appended : take k d ≡ spell 10 k n → (at r : ℕ) (b b' : List ℕ) → Appended (length (take k d)) (take k d) at b r b' → Appended 10 (decimal n) at b r b'
  number_appended e at r b b' a =
      let same : take k d ≡ decimal n = e ∙ spells n k held in
      let few : length (take k d) ≤ 10 = omega (arith, few_digits n k held small, length-take k d) in
      let short : Appended 10 (take k d) at b r b' = record { within = a.within; few = few; next = a.next; held = a.held } in
      rw same at short
