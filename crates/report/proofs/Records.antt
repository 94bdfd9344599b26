-- What was read from a record: a buffer of 2,048 words holds any sequence, so reading is refused for the record's own causes alone, and
-- the start of the buffer is the sequence.
-- Assumes nothing.
use Prim.Native.Nat.{ℕ, ◌+◌, ◌-◌, ◌≤◌}
use native.Mathlib.Omega.{arith}
use mathlib.Core.Path.{◌≡◌, refl, sym, ◌∙◌, ap}
use mathlib.Core.Bool.{Bool, true, false}
use mathlib.Core.List.{List}
use lib.Dec.{ltb}
use lib.ListN.{length, take, drop, length-drop}
use lib.Seq.{take_at, take_all, length-take-le}
use Rattle.std.specs.Prelude.{Result, Ok, Err}
use Rattle.refusal.specs.declared.Refusal.{Refusal}
use Rattle.refusal.proofs.Causes.{outcome_refused, outcome_accepted}
use Rattle.buffer.specs.Buffer.{onto}
use Rattle.buffer.proofs.Buffer.{length_onto}
use Rattle.record.specs.Format.{id_of}
use Rattle.record.specs.Reading.{head, count, sequence, read_refusal, read_as, read_answer, read_buffer}
use Rattle.record.specs.declared.Found.{Found}
use Rattle.record.proofs.Reading.{Recorded, accepted, accepted_fits}
use Rattle.report.specs.Pair.{refused_line, unless, reading, from_pair, from_second, from_first}
use Rattle.report.specs.Written.{Written, Held, Read}

-- The room is never the cause.
pub room_enough : (src : List ℕ) → read_refusal src 2048 ≡ reading src
room_enough src = go (ltb 2048 (count src)) refl
  where
    go : (t : Bool) → ltb 2048 (count src) ≡ t → read_refusal src 2048 ≡ reading src
    go true e = rw e refl
    go false e = rw e refl

-- What reading answered for a buffer of 2,048 words.
module _ (src b b' : List ℕ) (k : b' ≡ read_buffer src b) (room : length b ≡ 2048) where
  held : (found : Found) → read_as (Ok found) ≡ read_answer src (length b) → Held src found b'
  held found e =
      let clear : read_refusal src (length b) ≡ 0 = sym (ap (λ x. x.refusal) e) in
      let h : Recorded src = accepted src (length b) clear in
      let fits : count src ≤ length b = accepted_fits src (length b) clear in
      let counted : found.count ≡ count src = ap (λ x. x.count) e ∙ outcome_accepted (read_refusal src (length b)) (count src) 0 clear in
      let used : found.used ≡ count src + 2 = ap (λ x. x.used) e ∙ outcome_accepted (read_refusal src (length b)) (count src + 2) 0 clear in
      let copied : b' ≡ onto (sequence src) b = k ∙ outcome_accepted (read_refusal src (length b)) (onto (sequence src) b) b clear in
      let size : length (sequence src) ≡ count src = length-take-le (count src) (drop 1 src) (omega (arith, length-drop 1 src, h.whole)) in
      let long : length b' ≡ length b = ap length copied ∙ length_onto (sequence src) b (omega arith) in
      record {
        none = sym (room_enough src) ∙ (ap (λ n. read_refusal src n) (sym room) ∙ clear);
        id = ap (λ x. x.id) e ∙ outcome_accepted (read_refusal src (length b)) (id_of (head src)) 0 clear;
        used = used;
        whole = omega (arith, h.whole);
        fits = omega arith;
        short = omega (arith, h.short);
        prefix = rw (counted, copied) (take_at (sequence src) (drop (length (sequence src)) b) (count src) size);
      }

  pub read_there : (r : Result Found Refusal) → read_as r ≡ read_answer src (length b) → Read src r b'
  read_there (Ok found) e = held found e
  read_there (Err e) q = ap (λ x. x.refusal) q ∙ (ap (λ n. read_refusal src n) room ∙ room_enough src)

-- ---- what is written, o' in place of o with the length r
module _ (src o : List ℕ) (r : ℕ) (o' : List ℕ) where
  -- After a refusal the line of its number q, whatever would have followed.
  module _ (q : ℕ) (why : q ≡ reading src) (some : q ≡ 0 → ⊥) (w : Written (refused_line q) o r o') where
    unless_refused : (lines : List ℕ) → Written (unless (reading src) lines) o r o'
    unless_refused lines = rw (← why, outcome_refused q lines (refused_line q) some) w

    pub second_refused : (i minimum : ℕ) (first : List ℕ) → Written (from_second i minimum first src) o r o'
    unfolding from_second
    second_refused i minimum first = unless_refused _

    pub first_refused : (minimum : ℕ) → Written (from_first minimum src) o r o'
    unfolding from_first
    first_refused minimum = unless_refused _

  module _ (found : Found) (b : List ℕ) (h : Held src found b) where
    pub second_accepted : (i minimum : ℕ) (first : List ℕ) → Written (from_pair i found.id minimum first (take found.count b)) o r o' → Written (from_second i minimum first src) o r o'
    unfolding from_second
    second_accepted i minimum first w =
        let w' : Written (from_pair i (id_of (head src)) minimum first (sequence src)) o r o' = rw (← h.id, ← h.prefix) w in
        rw (outcome_accepted (reading src) (from_pair i (id_of (head src)) minimum first (sequence src)) (refused_line (reading src)) h.none) w'

    pub first_accepted : (minimum : ℕ) → Written (from_second found.id minimum (take found.count b) (take (length src - found.used) (drop found.used src))) o r o' → Written (from_first minimum src) o r o'
    unfolding from_first
    first_accepted minimum w =
        let tail : take (length src - found.used) (drop found.used src) ≡ drop (count src + 2) src =
        take_all (length src - found.used) (drop found.used src) (omega (arith, length-drop found.used src)) ∙ ap (λ n. drop n src) h.used in
        let w' : Written (from_second (id_of (head src)) minimum (sequence src) (drop (count src + 2) src)) o r o' = rw (← h.id, ← h.prefix, ← tail) w in
        rw (outcome_accepted (reading src) (from_second (id_of (head src)) minimum (sequence src) (drop (count src + 2) src)) (refused_line (reading src)) h.none) w'
