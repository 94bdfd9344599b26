-- Reading and writing undo each other, since what is accepted starts with the encoding of what is read, and every encoding is accepted.
-- Assumes nothing.
use Prim.Native.Nat.{ℕ, suc, ◌+◌, ◌^◌, ◌≤◌, ◌<◌}
use native.Mathlib.Omega.{arith}
use native.Mathlib.Numerals.{add-one}
use mathlib.Core.Path.{◌≡◌, refl, sym, ◌∙◌, ap}
use mathlib.Core.Bool.{true}
use mathlib.Core.List.{List, [], ◌∷◌, ◌++◌, append_assoc}
use lib.Dec.{eqb, ltb}
use lib.ListN.{length, get_or, take, drop, length-append, length-drop, get_or-append}
use lib.Seq.{length-take-le, take-suc, take_at, drop_at, get_or_at, take-append-le, drop-append-le}
use borrow.Author.Tests.{le-ltb, ne_eqb}
use Rattle.symbol.specs.Sequence.{all_sound}
use Rattle.refusal.specs.Refusal.{refuse}
use Rattle.buffer.specs.Buffer.{onto}
use Rattle.record.specs.Format.{header, id_of, count_of, trailer, encode}
use Rattle.record.specs.Reading.{head, count, sequence, closes, fault, read_refusal, read_buffer}
use Rattle.record.specs.Writing.{write_refusal, write_buffer}
use Rattle.record.specs.RoundTrip.{rewritten, Rewritten, Reread, Unread}
use Rattle.record.proofs.Format.{id_header, count_header, kind_header, header_parts, id_small}
use Rattle.record.proofs.Reading.{take_head, closes_trailer, trailer_closes, Recorded, accepted, read_accepts}
use Rattle.record.proofs.Writing.{writable, write_accepts}

pub length_encode : (id : ℕ) (s : List ℕ) → length (encode id s) ≡ length s + 2
unfolding encode
length_encode id s = simp length-append (omega arith)

-- ---- a src that starts with a record starts with the encoding of its id and its sequence
module _ (src : List ℕ) (a : Recorded src) where
  pub length_sequence : length (sequence src) ≡ count src
  length_sequence = length-take-le (count src) (drop 1 src) (omega (arith, length-drop 1 src, a.whole))

  pub recorded_encodes : take (count src + 2) src ≡ encode (id_of (head src)) (sequence src)
  unfolding encode
  recorded_encodes =
      let two : count src + 2 ≡ suc (count src + 1) = omega arith in
      let front : take (count src + 1) src ≡ head src ∷ sequence src = take_head src (count src) (λ z. omega (arith, a.whole)) in
      let last : get_or src (count src + 1) 0 ≡ trailer (head src ∷ sequence src) = closes_trailer src a.closed ∙ ap trailer front in
      rw (
        two,
        take-suc src (count src + 1) 0 (omega (arith, a.whole)),
        last,
        front,
        length_sequence,
        header_parts (head src) a.headed,
      )
      refl

-- ---- whatever starts with an encoding starts with a record, and reads as what was encoded
pub record Encodes (id : ℕ) (s src : List ℕ) : Type 0 where
  pub id_is : id_of (head src) ≡ id
  pub count_is : count src ≡ length s
  pub sequence_is : sequence src ≡ s
  pub recorded_is : Recorded src

pub encoded : (id : ℕ) (s rest : List ℕ) → id < 2 ^ 16 → length s ≤ 2048 → all_sound s ≡ true → Encodes id s (encode id s ++ rest)
unfolding encode
encoded id s rest small short sound =
    let src : List ℕ = encode id s ++ rest in
    let t : ℕ = trailer (header id (length s) ∷ s) in
    let n : count src ≡ length s = count_header id (length s) (omega arith) in
    let tail : drop 1 src ≡ s ++ (t ∷ rest) = append_assoc s (t ∷ []) rest in
    let front : take (length s) (drop 1 src) ≡ s = rw tail (take_at s (t ∷ rest) (length s) refl) in
    let sequence_is : sequence src ≡ s = rw n front in
    let last : get_or src (count src + 1) 0 ≡ trailer (take (count src + 1) src) =
    rw (n, take_head src (length s) (λ z. omega arith), front, add-one (length s), tail) (get_or_at s t rest 0 (length s) refl) in
    record {
      id_is = id_header id (length s) small (omega arith);
      count_is = n;
      sequence_is = sequence_is;
      recorded_is =
          record {
            headed = kind_header id (length s) small (omega arith);
            short = omega (arith, n);
            whole = omega (arith, n, length-append (encode id s) rest, length_encode id s);
            sound = rw sequence_is sound;
            closed = trailer_closes src last;
          };
    }

-- ---- read, then write
-- A record that was read, when written, is again the words that it was read from, wherever there is room for them; words beyond them stay.
pub read_then_write : (src buffer out : List ℕ) → read_refusal src (length buffer) ≡ 0 → count src + 2 ≤ length out → Rewritten src buffer out
read_then_write src buffer out e room =
    let a = accepted src (length buffer) e in
    let n = length_sequence src a in
    let words = recorded_encodes src a in
    let read : take (count src) (read_buffer src buffer) ≡ sequence src = rw e (take_at (sequence src) _ (count src) n) in
    let accepts : write_refusal (sequence src) (length out) ≡ 0 =
    write_accepts
    (sequence src)
    (length out)
    (record { short = omega (arith, a.short); sound = a.sound; fits = omega arith }) in
    let written : rewritten src buffer out ≡ onto (take (count src + 2) src) out = rw (read, accepts, words) refl in
    let long : length (take (count src + 2) src) ≡ count src + 2 = length-take-le (count src + 2) src a.whole in
    record {
      id_fits = id_small (head src);
      accepts = rw read accepts;
      same = rw written (take_at (take (count src + 2) src) _ (count src + 2) long);
      beyond = rw (written, drop_at (take (count src + 2) src) (drop (length (take (count src + 2) src)) out) (count src + 2) long, long) refl;
    }

-- ---- write, then read
-- A record that was written is read back with its id, its count and its words, wherever there is room for them.
pub write_then_read : (id : ℕ) (s buffer out : List ℕ) → id < 2 ^ 16 → write_refusal s (length buffer) ≡ 0 → length s ≤ length out → Reread id s buffer out
write_then_read id s buffer out small e room =
    let w = writable s (length buffer) e in
    let r = encoded id s (drop (length (encode id s)) buffer) small w.short w.sound in
    let written : write_buffer id s buffer ≡ onto (encode id s) buffer = rw e refl in
    let accepts : read_refusal (onto (encode id s) buffer) (length out) ≡ 0 = read_accepts _ (length out) r.recorded_is (omega (arith, room, r.count_is)) in
    record {
      answer = rw (written, accepts, r.id_is, r.count_is) refl;
      copied = rw (written, accepts, r.sequence_is) refl;
    }

-- ---- the words after a record
-- Words after the trailer do not matter.
pub tail_unread : (src rest : List ℕ) → count src + 2 ≤ length src → Unread src rest
unfolding closes
tail_unread src rest whole =
    let first : head (src ++ rest) ≡ head src = get_or-append src rest 0 0 (omega arith) in
    let last : get_or (src ++ rest) (count src + 1) 0 ≡ get_or src (count src + 1) 0 = get_or-append src rest 0 (count src + 1) (omega arith) in
    let front : take (count src + 1) (src ++ rest) ≡ take (count src + 1) src = take-append-le (count src + 1) src rest (omega arith) in
    let body : take (count src) (drop 1 (src ++ rest)) ≡ sequence src =
    rw (drop-append-le 1 src rest (omega arith)) (take-append-le (count src) (drop 1 src) rest (omega (arith, length-drop 1 src))) in
    let some : eqb (length (src ++ rest)) 0 ≡ eqb (length src) 0 =
    ne_eqb (length (src ++ rest)) 0 (λ z. omega (arith, length-append src rest)) ∙ sym (ne_eqb (length src) 0 (λ z. omega arith)) in
    let enough : ltb (length (src ++ rest)) (count src + 2) ≡ ltb (length src) (count src + 2) =
    le-ltb (length (src ++ rest)) (count src + 2) (omega (arith, length-append src rest)) ∙ sym (le-ltb (length src) (count src + 2) whole) in
    let own : (later : ℕ) → fault (src ++ rest) later ≡ fault src later = λ later. rw (some, first, enough, body, last, front) refl in
    let refusal : (room : ℕ) → read_refusal (src ++ rest) room ≡ read_refusal src room = λ room. own _ ∙ ap (λ (h : ℕ). fault src (refuse (ltb room (count_of h)) 11 0)) first in
    record {
      first = first;
      words = rw first body;
      own = own;
      refusal = refusal;
      answer = λ room. rw (refusal room, first) refl;
      copied = λ buffer. rw (refusal (length buffer), first, body) refl;
    }
