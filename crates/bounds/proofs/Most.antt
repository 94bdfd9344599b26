-- The greatest of some numbers, one after another: the larger of the greatest so far and the next is the greatest of one more.
-- Assumes nothing.
use Prim.Native.Nat.{ℕ, ◌+◌, ◌≤◌, ◌<◌, max}
use native.Mathlib.Nat.{not-suc-le-zero}
use native.Mathlib.Decide.{dec_lt}
use native.Mathlib.Omega.{arith}
use mathlib.Core.Path.{◌≡◌, ◌∙◌}
use mathlib.Core.List.{List}
use lib.ListN.{length, take, drop, get_or, length-drop}
use lib.Seq.{length-take-le, get_or-take, get_or-drop}
use Rattle.bounds.specs.Greatest.{Among, Greatest}

pub record Seen (words : List ℕ) (i r : ℕ) : Type 0 where
  pub within : i ≤ length words
  pub greatest : Greatest (λ k. get_or words k 0) i r

pub seen_none : (words : List ℕ) → Seen words 0 0
seen_none words =
    record {
      within = omega arith;
      greatest = record { most = λ i h. absurd (not-suc-le-zero h); one = λ h. absurd (not-suc-le-zero h) };
    }

pub seen_more : (words : List ℕ) (i r s : ℕ) → Seen words i r → i < length words → s ≡ max r (get_or words i 0) → Seen words (i + 1) s
seen_more words i r s g h e =
    record {
      within = omega arith;
      greatest = record { most = λ k l. most k l (dec_lt k i); one = λ z. one z (dec_lt r s) };
    }
  where
    most : (k : ℕ) → k < i + 1 → Dec (k < i) → get_or words k 0 ≤ s
    most k l (yes m) = omega (arith, e, g.greatest.most k m)
    most k l (no m) = let q : k ≡ i = omega (arith, m) in rw q (omega (arith, e))

    one : 0 < s → Dec (r < s) → Among (λ k. get_or words k 0) (i + 1) s
    one z (yes m) = record { at = i; below = omega arith; here = omega (arith, e) }
    one z (no m) = let a = g.greatest.one (omega (arith, e, m)) in record { at = a.at; below = omega (arith, a.below); here = omega (arith, a.here, e, m) }

pub seen_all : (words : List ℕ) (i r : ℕ) → Seen words i r → length words ≤ i → Greatest (λ k. get_or words k 0) (length words) r
seen_all words i r g h = let e : i ≡ length words = omega (arith, g.within) in rw e at g.greatest

-- The same where the number of words is known beforehand.
pub seen_known : (words : List ℕ) (i r n : ℕ) → Seen words i r → n ≤ i → length words ≡ n → Greatest (λ k. get_or words k 0) (length words) r
seen_known words i r n g h long = seen_all words i r g (omega arith)

-- The greatest of the same numbers, and of the words of a part.
pub greatest_same : (f g : ℕ → ℕ) (n r : ℕ) → ((i : ℕ) → i < n → f i ≡ g i) → Greatest f n r → Greatest g n r
greatest_same f g n r same d =
    record {
      most = λ i h. omega (arith, same i h, d.most i h);
      one = λ z. let a = d.one z in record { at = a.at; below = a.below; here = omega (arith, same a.at a.below, a.here) };
    }

pub greatest_part : (xs : List ℕ) (from count r : ℕ) → from + count ≤ length xs → Greatest (λ k. get_or (take count (drop from xs)) k 0) (length (take count (drop from xs))) r → Greatest (λ i. get_or xs (from + i) 0) count r
greatest_part xs from count r h g =
    let n : length (take count (drop from xs)) ≡ count = length-take-le count (drop from xs) (omega (arith, length-drop from xs)) in
    let whole : Greatest (λ k. get_or (take count (drop from xs)) k 0) count r = rw n at g in
    greatest_same (λ k. get_or (take count (drop from xs)) k 0) (λ i. get_or xs (from + i) 0) count r (λ i k. get_or-take count (drop from xs) i 0 k ∙ get_or-drop from xs i 0) whole
