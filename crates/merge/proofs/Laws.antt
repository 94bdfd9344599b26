-- What holds of two records merged. The merged record is an encoding of sound words, so it reads without refusal; a record is the encoding of
-- its own words, so merged with itself it is given back; and exchanging the two exchanges the words position by position.
-- Assumes nothing.
use Prim.Native.Nat.{ℕ, ◌+◌, ◌≤◌, ◌<◌}
use native.Mathlib.Omega.{arith}
use native.Mathlib.Numerals.{add-one}
use mathlib.Core.Path.{◌≡◌, refl, sym, ◌∙◌, ap}
use mathlib.Core.List.{List, ◌∷◌, [], ◌++◌, append_assoc}
use lib.ListN.{length, take, drop, get_or, get_or-append}
use lib.Seq.{length-take-le, take_at, drop_at}
use Rattle.buffer.specs.Buffer.{onto}
use Rattle.record.specs.Format.{header, id_of, trailer, encode}
use Rattle.record.specs.Reading.{head, count, sequence, fault, read_refusal}
use Rattle.record.proofs.Format.{id_small}
use Rattle.record.proofs.Reading.{faultless, read_accepts}
use Rattle.record.proofs.RoundTrip.{length_sequence, recorded_encodes, encoded, tail_unread}
use Rattle.merge.specs.Word.{merged}
use Rattle.merge.specs.Merging.{merge_refusal, merged_record, merge_buffer}
use Rattle.merge.specs.Laws.{NotInvented, Reads, GivenBack, BothWays, Unread}
use Rattle.merge.proofs.Word.{not_invented, get_or_merged, merged_sound, merged_self, merged_alike}
use Rattle.merge.proofs.Merging.{Mergeable, mergeable, merge_accepts, even, merged_count}

module _ (first second buffer : List ℕ) (e : merge_refusal first second (length buffer) ≡ 0) where
  here : Mergeable first second (length buffer)
  here = mergeable first second (length buffer) e

  stands : merge_buffer first second buffer ≡ onto (merged_record first second) buffer
  stands = rw e refl

  -- ---- it reads without refusal
  pub merge_reads : (out : List ℕ) → count first ≤ length out → Reads first second buffer out
  merge_reads out room =
      let s : List ℕ = merged (sequence first) (sequence second) in
      let long : length s ≡ count first = merged_count first second (length buffer) here in
      let r =
      encoded
      (id_of (head first))
      s
      (drop (length (merged_record first second)) buffer)
      (id_small (head first))
      (omega (arith, long, here.one.short))
      (merged_sound (sequence first) (sequence second) here.one.sound here.other.sound) in
      let accepts : read_refusal (onto (merged_record first second) buffer) (length out) ≡ 0 =
      read_accepts _ (length out) r.recorded_is (omega (arith, room, r.count_is, long)) in
      record {
        answer = rw (stands, accepts, r.id_is, r.count_is, long) refl;
        copied = rw (stands, accepts, r.sequence_is) refl;
        same_id = here.ids;
        same_count = here.counts;
      }

  -- ---- no call is invented: the words after the header, position by position
  pub merge_words_from : (i : ℕ) → i < count first → NotInvented (get_or (sequence first) i 0) (get_or (sequence second) i 0) (get_or (merge_buffer first second buffer) (i + 1) 0)
  unfolding encode
  merge_words_from i h =
      let s : List ℕ = merged (sequence first) (sequence second) in
      let long : length s ≡ count first = merged_count first second (length buffer) here in
      let same = even first second (length buffer) here in
      let first-long : length (sequence first) ≡ count first = length_sequence first here.one in
      let t : ℕ = trailer (header (id_of (head first)) (length s) ∷ s) in
      let after : get_or (merge_buffer first second buffer) (i + 1) 0 ≡ get_or s i 0 =
      rw (stands, add-one i, append_assoc s (t ∷ []) (drop (length (merged_record first second)) buffer))
      (get_or-append s _ 0 i (omega (arith, long))) in
      rw (after, get_or_merged (sequence first) (sequence second) same i (omega (arith, first-long)))
      (not_invented (get_or (sequence first) i 0) (get_or (sequence second) i 0))

-- ---- a record merged with itself
pub merge_itself : (src buffer : List ℕ) → fault src 0 ≡ 0 → count src + 2 ≤ length buffer → GivenBack src buffer
merge_itself src buffer e room =
    let a = (faultless src 0 e).recorded in
    let accepts : merge_refusal src src (length buffer) ≡ 0 =
    merge_accepts src src (length buffer) (record { one = a; other = a; ids = refl; counts = refl; fits = room }) in
    let words : merge_buffer src src buffer ≡ onto (take (count src + 2) src) buffer =
    rw (accepts, merged_self (sequence src) a.sound, recorded_encodes src a) refl in
    let long : length (take (count src + 2) src) ≡ count src + 2 = length-take-le (count src + 2) src a.whole in
    record {
      accepts = accepts;
      same = rw words (take_at (take (count src + 2) src) _ (count src + 2) long);
      beyond = rw (words, drop_at (take (count src + 2) src) (drop (length (take (count src + 2) src)) buffer) (count src + 2) long, long) refl;
    }

-- ---- both ways round
pub merge_either_way : (first second : List ℕ) (room : ℕ) → merge_refusal first second room ≡ 0 → BothWays first second room
merge_either_way first second room e =
    let m = mergeable first second room e in
    record {
      accepts =
          merge_accepts second first room
          (record {
            one = m.other;
            other = m.one;
            ids = sym m.ids;
            counts = sym m.counts;
            fits = omega (arith, m.fits, m.counts);
          });
      alike = merged_alike (sequence first) (sequence second);
    }

-- ---- the words after the records
pub merge_tails_unread : (first second rest others : List ℕ) → count first + 2 ≤ length first → count second + 2 ≤ length second → Unread first second rest others
merge_tails_unread first second rest others p q =
    let u = tail_unread first rest p in
    let v = tail_unread second others q in
    let refusal : (room : ℕ) → merge_refusal (first ++ rest) (second ++ others) room ≡ merge_refusal first second room =
    λ room. u.own _ ∙ ap (fault first) (v.own _ ∙ ap (fault second) (rw (u.first, v.first) refl)) in
    record {
      answer = λ room. rw (refusal room, u.first) refl;
      written = λ buffer. rw (refusal (length buffer), u.words, v.words, u.first) refl;
    }
