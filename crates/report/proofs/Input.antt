-- The report needs no more than the first 4,101 words: a minimum word and two records of at most 2,050 words. Reading a record looks at
-- no word after its trailer, so what is cut off beyond that changes nothing.
-- Assumes nothing.
use Prim.Native.Nat.{ℕ, zero, suc, ◌+◌, ◌-◌, ◌≤◌, ◌<◌}
use native.Mathlib.Nat.{not-suc-le-zero, le_of_suc-le-suc}
use native.Mathlib.Decide.{dec_lt}
use native.Mathlib.Omega.{arith}
use mathlib.Core.Path.{◌≡◌, refl, sym, ◌∙◌, ap}
use mathlib.Core.Bool.{Bool, true, false}
use mathlib.Core.List.{List, [], ◌∷◌, ◌++◌, append_assoc}
use lib.Dec.{eqb, ltb}
use lib.ListN.{length, take, drop, length-take, take-append-drop}
use lib.Seq.{get_or-take, take-take, take_at}
use borrow.Author.Tests.{ltb-false, lt-ltb, le-ltb, eq-eqb, ne_eqb}
use Rattle.buffer.specs.Buffer.{onto}
use Rattle.buffer.proofs.Buffer.{rest_of_front}
use Rattle.record.specs.Format.{id_of}
use Rattle.record.specs.Reading.{head, count, sequence, closes}
use Rattle.record.proofs.Reading.{framed}
use Rattle.report.specs.Words.{words_of}
use Rattle.report.specs.Pair.{unless, reading, from_second, from_first, from_words, pair_report}
use Rattle.report.specs.Buffers.{input_words, input_bytes, report_bytes, ReadFrom}
use Rattle.report.specs.Written.{Written}
use Rattle.report.proofs.Words.{words_cut}

-- ---- lists that are cut off
module _ (src : List ℕ) (k : ℕ) (h : 2050 ≤ k) where
  head_same : head (take k src) ≡ head src
  head_same = get_or-take k src 0 0 (omega arith)

  empty_same : eqb (length (take k src)) 0 ≡ eqb (length src) 0
  empty_same = go (dec_lt 0 (length src))
    where
      go : Dec (0 < length src) → eqb (length (take k src)) 0 ≡ eqb (length src) 0
      go (yes some) = rw (ne_eqb (length (take k src)) 0 (λ z. omega (arith, length-take k src)), ne_eqb (length src) 0 (λ z. omega arith)) refl
      go (no none) = rw (eq-eqb (length (take k src)) 0 (omega (arith, length-take k src)), eq-eqb (length src) 0 (omega arith)) refl

  -- A record of at most 2,050 words is not cut.
  module _ (short : count src ≤ 2048) where
    whole_same : ltb (length (take k src)) (count src + 2) ≡ ltb (length src) (count src + 2)
    whole_same = go (dec_lt (length src) (count src + 2))
      where
        go : Dec (length src < count src + 2) → ltb (length (take k src)) (count src + 2) ≡ ltb (length src) (count src + 2)
        go (yes cut) = rw (lt-ltb (length (take k src)) (count src + 2) (omega (arith, length-take k src)), lt-ltb (length src) (count src + 2) cut) refl
        go (no full) = rw (le-ltb (length (take k src)) (count src + 2) (omega (arith, length-take k src)), le-ltb (length src) (count src + 2) (omega arith)) refl

    words_same : take (count src) (drop 1 (take k src)) ≡ sequence src
    words_same = ap (λ l. take (count src) l) (sym (rest_of_front 1 k src)) ∙ take-take (count src) (k - 1) (drop 1 src) (omega arith)

    closes_same : closes (take k src) ≡ closes src
    unfolding closes
    closes_same = rw (head_same, get_or-take k src (count src + 1) 0 (omega arith), take-take (count src + 1) k src (omega arith)) refl

  reading_same : reading (take k src) ≡ reading src
  reading_same = go (ltb 2048 (count src)) refl
    where
      go : (t : Bool) → ltb 2048 (count src) ≡ t → reading (take k src) ≡ reading src
      go true e = rw (head_same, empty_same, e) refl
      go false e =
          let short = ltb-false 2048 (count src) e in
          rw (closes_same short, head_same, empty_same, e, whole_same short, words_same short) refl

-- ---- what follows a refusal or its absence
unless_same : (r : ℕ) (x y : List ℕ) → (r ≡ 0 → x ≡ y) → unless r x ≡ unless r y
unless_same zero x y e = e refl
unless_same (suc r) x y e = refl

-- A record that was read has at most 2,048 words in its sequence.
read_short : (src : List ℕ) → reading src ≡ 0 → count src ≤ 2048
read_short src z = (framed src _ z).short

second_same : (i minimum : ℕ) (first src : List ℕ) (k : ℕ) → 2050 ≤ k → from_second i minimum first (take k src) ≡ from_second i minimum first src
unfolding from_second
second_same i minimum first src k h =
    rw (reading_same src k h, head_same src k h)
    (unless_same (reading src) _ _ (λ z. rw (words_same src k h (read_short src z)) refl))

first_same : (minimum : ℕ) (src : List ℕ) (k : ℕ) → 4100 ≤ k → from_first minimum (take k src) ≡ from_first minimum src
unfolding from_first
first_same minimum src k h =
    let far : 2050 ≤ k = omega arith in
    rw (reading_same src k far, head_same src k far)
    (unless_same (reading src) _ _ (λ z.
    let short = read_short src z in
    let rest : 2050 ≤ k - (count src + 2) = omega arith in
    rw (words_same src k far short, ← rest_of_front (count src + 2) k src)
    (second_same (id_of (head src)) minimum (sequence src) (drop (count src + 2) src) (k - (count src + 2)) rest)))

pub words_enough : (ws : List ℕ) (k : ℕ) → input_words ≤ k → from_words (take k ws) ≡ from_words ws
unfolding from_words
words_enough ws zero h = absurd (not-suc-le-zero h)
words_enough [] (suc k) h = refl
words_enough (minimum ∷ src) (suc k) h = first_same minimum src k (omega arith)

-- The same in bytes.
pub input_enough : (input : List ℕ) (k : ℕ) → input_bytes ≤ k → pair_report (take k input) ≡ pair_report input
unfolding pair_report
input_enough input k h =
    let cut : (l : List ℕ) → from_words (words_of (take input_bytes l)) ≡ from_words (words_of l) =
    λ l. rw (words_cut input_words l) (words_enough (words_of l) input_words (omega arith)) in
    sym (cut (take k input)) ∙ (ap (λ l. from_words (words_of l)) (take-take input_bytes k input h) ∙ cut input)

-- ---- what report writes: it stored the first words of the input
module _ (input w w' : List ℕ) (n : ℕ) (counted : n ≡ length (take (length w) (words_of input))) (stored : w' ≡ onto (take (length w) (words_of input)) w) where
  pub reported : length w ≡ input_words → (o : List ℕ) (r : ℕ) (o' : List ℕ) → Written (from_words (take n w')) o r o' → Written (pair_report input) o r o'
  unfolding pair_report
  reported room o r o' a =
      let ws = take (length w) (words_of input) in
      let e : take n w' ≡ take input_words (words_of input) =
      rw stored (take_at ws (drop (length ws) w) n (sym counted)) ∙ ap (λ k. take k (words_of input)) room in
      rw (← words_enough (words_of input) input_words (omega arith), ← e) a

-- A buffer that holds what can matter of a stream gives the stream's report.
pub stream_reported : (stream b : List ℕ) (got : ℕ) (o : List ℕ) (r : ℕ) (o' : List ℕ) → input_bytes ≤ length b → Written (pair_report (take got b)) o r o' → ReadFrom stream got b → Written (pair_report stream) o r o'
stream_reported stream b got o r o' room a read = rw (ap pair_report read ∙ input_enough stream (length b) room) at a

-- ---- the page that the output begins with
cut_rest : (k n : ℕ) (xs : List ℕ) → k ≤ n → drop k (take n xs) ++ drop n xs ≡ drop k xs
cut_rest zero n xs h = take-append-drop n xs
cut_rest (suc k) zero xs h = absurd (not-suc-le-zero h)
cut_rest (suc k) (suc n) [] h = refl
cut_rest (suc k) (suc n) (x ∷ xs) h = cut_rest k n xs (le_of_suc-le-suc h)

-- A report at its start stands at the start of the output.
pub on_page : (bytes o page : List ℕ) (r : ℕ) (page' : List ℕ) → page ≡ take report_bytes o → Written bytes page r page' → Written bytes o r (page' ++ drop report_bytes o)
on_page bytes o page r page' e a =
    record {
      count = a.count;
      few = a.few;
      held = rw (a.held, e, append_assoc, cut_rest (length bytes) report_bytes o (omega (arith, a.few, a.count))) refl;
    }

-- ---- the report's bytes in the output
module _ (bytes o : List ℕ) (r : ℕ) (o' : List ℕ) (a : Written bytes o r o') where
  -- What is handed to the write is the report.
  pub reported_bytes : take r o' ≡ bytes
  reported_bytes = rw a.held (take_at bytes (drop (length bytes) o) r (sym a.count))
