-- The record format as numbers: a header splits into its id and its count, a trailer is one number, and a checksum grows word by word.
-- Assumes nothing.
use Prim.Native.Nat.{ℕ, ◌+◌, ◌*◌, ◌%◌, ◌^◌, ◌<◌}
use native.Mathlib.Omega.{arith}
use Rattle.std.proofs.Common.{fold}
use mathlib.Core.Path.{◌≡◌, refl, ◌∙◌}
use mathlib.Core.List.{List, [], ◌∷◌}
use Rattle.symbol.specs.Word.{kind, low}
use Rattle.record.specs.Format.{header, id_of, count_of, sum_low, checksum, trailer}

-- ---- the header
pub id_header : (id n : ℕ) → id < 2 ^ 16 → n < 2 ^ 14 → id_of (header id n) ≡ id
unfolding header id_of low
id_header id n h k = omega arith

pub count_header : (id n : ℕ) → n < 2 ^ 14 → count_of (header id n) ≡ n
unfolding header count_of
count_header id n k = omega arith

pub kind_header : (id n : ℕ) → id < 2 ^ 16 → n < 2 ^ 14 → kind (header id n) ≡ 0
unfolding header kind
kind_header id n h k = omega arith

-- A word of kind 0 is the header of its own id and count.
pub header_parts : (h : ℕ) → kind h ≡ 0 → header (id_of h) (count_of h) ≡ h
unfolding header id_of count_of kind low
header_parts h e = omega arith

pub id_small : (h : ℕ) → id_of h < 2 ^ 16
unfolding id_of low
id_small h = omega arith

-- ---- the trailer
pub kind_trailer : (ws : List ℕ) → kind (trailer ws) ≡ 3
unfolding kind trailer checksum
kind_trailer ws = omega arith

pub low_trailer : (ws : List ℕ) → low (trailer ws) ≡ checksum ws
unfolding low trailer checksum
low_trailer ws = omega arith

-- A word of kind 3 is the trailer of the words whose checksum it holds.
pub trailer_parts : (w : ℕ) (ws : List ℕ) → kind w ≡ 3 → low w ≡ checksum ws → w ≡ trailer ws
unfolding kind low trailer
trailer_parts w ws k l = omega arith

-- ---- the fold of trailer_of: the words are added whole, and the sum wraps at 2^32; modulo 2^30 it is the checksum of the header and the words
added : (h : ℕ) (s : List ℕ) → fold (λ sum w. (sum + w) % 2 ^ 32) h s % 2 ^ 30 ≡ checksum (h ∷ s)
unfolding checksum sum_low low
added h [] = omega arith
added h (w ∷ s) = let e = added ((h + w) % 2 ^ 32) s in e ∙ omega arith

pub summed : (h sum : ℕ) (s : List ℕ) → sum ≡ fold (λ sum w. (sum + w) % 2 ^ 32) h s → 3 * 2 ^ 30 + sum % 2 ^ 30 ≡ trailer (h ∷ s)
unfolding trailer
summed h sum s e = rw (e, added h s) refl
