-- Merging step by step: the loop over the words, what two records that are accepted are known to be, and why the stores write their merged
-- record.
-- Assumes nothing.
use Prim.Native.Nat.{ℕ, ◌+◌, ◌-◌, ◌≤◌, ◌<◌}
use native.Mathlib.Omega.{arith}
use mathlib.Core.Path.{◌≡◌, refl, sym, ◌∙◌, ap}
use mathlib.Core.Bool.{not}
use mathlib.Core.List.{List, ◌++◌}
use lib.Dec.{eqb, ltb, lit<}
use lib.ListN.{length, get_or, take, drop, set}
use borrow.Author.Tests.{eq-eqb, le-ltb, eqb-true, ltb-false, not-false}
use Rattle.refusal.proofs.Causes.{clear}
use Rattle.buffer.specs.Buffer.{onto}
use Rattle.buffer.proofs.Buffer.{Copied, copied_more, copied_all}
use Rattle.record.specs.Format.{header, id_of, trailer}
use Rattle.record.specs.Reading.{head, count, sequence}
use Rattle.record.proofs.Format.{header_parts}
use Rattle.record.proofs.Reading.{Recorded, part_words, faultless, no_fault}
use Rattle.record.proofs.Writing.{closed, written}
use Rattle.record.proofs.RoundTrip.{length_sequence}
use Rattle.merge.specs.Word.{merged_word, merged}
use Rattle.merge.specs.Merging.{merge_refusal, merged_record}
use Rattle.merge.proofs.Word.{length_merged, get_or_merged}

-- ---- the loop: the first i merged words stand in the buffer
pub record Merging (first second b₀ b : List ℕ) (i : ℕ) : Type 0 where
  pub even : length first ≡ length second
  pub within : i ≤ length first
  pub room : length first ≤ length b₀
  pub held : b ≡ onto (take i (merged first second)) b₀
  pub same : length b ≡ length b₀

module _ (first second b₀ : List ℕ) (even : length first ≡ length second) where
  long : length (merged first second) ≡ length first
  long = length_merged first second even

  merging : (b : List ℕ) (i : ℕ) → Copied (merged first second) b₀ b i → Merging first second b₀ b i
  merging b i c =
      record {
        even = even;
        within = omega (arith, c.within, long);
        room = omega (arith, c.room, long);
        held = c.held;
        same = c.same;
      }

  copying : (b : List ℕ) (i : ℕ) → Merging first second b₀ b i → Copied (merged first second) b₀ b i
  copying b i m =
      record {
        within = omega (arith, m.within, long);
        room = omega (arith, m.room, long);
        held = m.held;
        same = m.same;
      }

pub merging_more : (first second b₀ b : List ℕ) (i w : ℕ) → Merging first second b₀ b i → i < length first → w ≡ merged_word (get_or first i 0) (get_or second i 0) → Merging first second b₀ (set b i w) (i + 1)
merging_more first second b₀ b i w m h e =
    let even = m.even in
    let next = copied_more (merged first second) b₀ b i (copying first second b₀ even b i m) (omega (arith, long first second b₀ even)) in
    merging first second b₀ even (set b i w) (i + 1) (rw (e, ← get_or_merged first second even i h) next)

pub merging_all : (first second b₀ b : List ℕ) (i : ℕ) → Merging first second b₀ b i → length first ≤ i → b ≡ onto (merged first second) b₀
merging_all first second b₀ b i m h =
    let even = m.even in
    copied_all (merged first second) b₀ b i (copying first second b₀ even b i m) (omega (arith, long first second b₀ even))

-- ---- two records that can be merged
pub record Mergeable (first second : List ℕ) (room : ℕ) : Type 0 where
  pub one : Recorded first
  pub other : Recorded second
  pub ids : id_of (head first) ≡ id_of (head second)
  pub counts : count first ≡ count second
  pub fits : count first + 2 ≤ room

pub mergeable : (first second : List ℕ) (room : ℕ) → merge_refusal first second room ≡ 0 → Mergeable first second room
mergeable first second room e =
    let a = faultless first _ e in
    let b = faultless second _ a.rest in
    let c = clear (not (eqb (id_of (head first)) (id_of (head second)))) 13 _ (lit< tt) b.rest in
    let d = clear (not (eqb (count first) (count second))) 14 _ (lit< tt) c.rest in
    let f = clear (ltb room (count first + 2)) 11 0 (lit< tt) d.rest in
    record {
      one = a.recorded;
      other = b.recorded;
      ids = eqb-true _ _ (not-false _ c.first);
      counts = eqb-true _ _ (not-false _ d.first);
      fits = ltb-false _ _ f.first;
    }

pub merge_accepts : (first second : List ℕ) (room : ℕ) → Mergeable first second room → merge_refusal first second room ≡ 0
merge_accepts first second room m =
    no_fault first _ m.one
    ∙ (no_fault second _ m.other
    ∙ rw (eq-eqb _ _ m.ids, eq-eqb _ _ m.counts, le-ltb room (count first + 2) m.fits) refl)

-- ---- what is stored: n is the count, b₁ the buffer with its header, part the words after it and b₂ the whole
module _ (first second : List ℕ) (room : ℕ) (m : Mergeable first second room) where
  pub even : length (sequence first) ≡ length (sequence second)
  even = length_sequence first m.one ∙ (m.counts ∙ sym (length_sequence second m.other))

  pub merged_count : length (merged (sequence first) (sequence second)) ≡ count first
  merged_count = length_merged (sequence first) (sequence second) even ∙ length_sequence first m.one

module _ (first second b b₁ part b₂ : List ℕ) (n : ℕ) (m : Mergeable first second (length b)) (c : n ≡ count first) where
  pub stored : b₁ ≡ set b 0 (head first) → part ≡ onto (merged (take (n + 1 - 1) (drop 1 first)) (take (n + 1 - 1) (drop 1 second))) (take (n + 1 - 1) (drop 1 b₁)) → b₂ ≡ set (take 1 b₁ ++ (part ++ drop (n + 1 - 1) (drop 1 b₁))) (n + 1) (trailer (take (n + 1) (take 1 b₁ ++ (part ++ drop (n + 1 - 1) (drop 1 b₁))))) → b₂ ≡ onto (merged_record first second) b
  stored p q k =
      let s : List ℕ = merged (sequence first) (sequence second) in
      let long : n ≡ length s = c ∙ sym (merged_count first second (length b) m) in
      let one : take (n + 1 - 1) (drop 1 first) ≡ sequence first = part_words first n ∙ ap (λ i. take i (drop 1 first)) c in
      let other : take (n + 1 - 1) (drop 1 second) ≡ sequence second = part_words second n ∙ ap (λ i. take i (drop 1 second)) (c ∙ m.counts) in
      let words : part ≡ onto s (take (length s + 1 - 1) (drop 1 b₁)) = rw (one, other, long) at q in
      let whole = closed (head first) s b b₁ part b₂ (omega (arith, m.fits, long, c)) p words (rw long at k) in
      let headed : head first ≡ header (id_of (head first)) (length s) =
      sym (header_parts (head first) m.one.headed) ∙ ap (header (id_of (head first))) (sym c ∙ long) in
      written (id_of (head first)) (head first) s b b₂ headed whole
