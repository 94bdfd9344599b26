-- Why the code's test of the last word is a cause of read_refusal (a word has kind 3 and the right sum just when it is the trailer), what an
-- accepted src is known to be, and what decides in a chain that begins with its faults.
-- Assumes nothing.
use Prim.Native.Nat.{ℕ, ◌+◌, ◌-◌, ◌≤◌}
use native.Mathlib.Omega.{arith}
use native.Mathlib.Numerals.{add-one}
use mathlib.Core.Path.{◌≡◌, refl, sym, ◌∙◌, ap}
use mathlib.Core.Bool.{Bool, true, false, not}
use mathlib.Core.List.{List, [], ◌∷◌}
use lib.Dec.{eqb, ltb, lit<}
use lib.ListN.{length, get_or, take, drop}
use borrow.Author.Tests.{eq-eqb, ne_eqb, le-ltb, eqb-true, ltb-false, not-false}
use Rattle.symbol.specs.Word.{kind, low}
use Rattle.symbol.specs.Sequence.{all_sound}
use Rattle.symbol.proofs.Word.{and_both, and_left, and_right}
use Rattle.record.specs.Format.{trailer}
use Rattle.record.specs.Reading.{head, count, sequence, closes, frame, content, fault, read_refusal}
use Rattle.record.proofs.Format.{kind_trailer, low_trailer, trailer_parts}
use Rattle.refusal.proofs.Causes.{never_none, clear, Part, part_end, part_cause, part_then, part_stops, part_goes}
use Rattle.refusal.specs.Number.{number}
use Rattle.refusal.specs.declared.Refusal.{Refusal}

-- The first n + 1 words are the header and the n words after it.
pub take_head : (src : List ℕ) (n : ℕ) → (length src ≡ 0 → ⊥) → take (n + 1) src ≡ head src ∷ take n (drop 1 src)
take_head [] n d = absurd (d refl)
take_head (h ∷ src) n d = rw (add-one n) refl

-- src[1..n + 1] is the n words after the header.
pub part_words : (src : List ℕ) (n : ℕ) → take (n + 1 - 1) (drop 1 src) ≡ take n (drop 1 src)
part_words src n = let e : n + 1 - 1 ≡ n = omega arith in rw e refl

-- ---- the trailer
pub closes_trailer : (src : List ℕ) → closes src ≡ true → get_or src (count src + 1) 0 ≡ trailer (take (count src + 1) src)
unfolding closes
closes_trailer src e = trailer_parts _ _ (eqb-true _ _ (and_left _ _ e)) (eqb-true _ _ (and_right (eqb (kind (get_or src (count src + 1) 0)) 3) _ e))

pub trailer_closes : (src : List ℕ) → get_or src (count src + 1) 0 ≡ trailer (take (count src + 1) src) → closes src ≡ true
unfolding closes
trailer_closes src e =
    and_both
    (eq-eqb _ _ (ap kind e ∙ kind_trailer (take (count src + 1) src)))
    (eq-eqb _ _ (ap low e ∙ low_trailer (take (count src + 1) src)))

module _ (src : List ℕ) (n t : ℕ) (whole : count src + 2 ≤ length src) (c : n ≡ count src) (e : t ≡ trailer (head src ∷ take (n + 1 - 1) (drop 1 src))) where
  is_trailer : t ≡ trailer (take (count src + 1) src)
  is_trailer = rw (take_head src (count src) (λ z. omega (arith, whole)), ← c, ← part_words src n) e

  at_end : get_or src (n + 1) 0 ≡ t → get_or src (count src + 1) 0 ≡ trailer (take (count src + 1) src)
  at_end k = ap (λ i. get_or src (i + 1) 0) (sym c) ∙ (k ∙ is_trailer)

  pub close_passed : get_or src (n + 1) 0 ≡ t → not (closes src) ≡ false
  close_passed k = rw (trailer_closes src (at_end k)) refl

  pub close_refused : (get_or src (n + 1) 0 ≡ t → ⊥) → not (closes src) ≡ true
  close_refused k = go (closes src) refl
    where
      go : (b : Bool) → closes src ≡ b → not b ≡ true
      go true d = absurd (k (ap (λ i. get_or src (i + 1) 0) c ∙ (closes_trailer src d ∙ sym is_trailer)))
      go false d = refl

-- ---- the parts of the chain
frame_part : (src : List ℕ) → Part (frame src)
frame_part src =
    part_cause _ (eqb (length src) 0) 8 (lit< tt)
    (part_cause _ (not (eqb (kind (head src)) 0)) 9 (lit< tt)
    (part_cause _ (ltb 2048 (count src)) 9 (lit< tt)
    (part_cause _ (ltb (length src) (count src + 2)) 8 (lit< tt) part_end)))

content_part : (src : List ℕ) → Part (content src)
content_part src = part_cause _ (not (all_sound (sequence src))) 2 (lit< tt) (part_cause _ (not (closes src)) 10 (lit< tt) part_end)

pub fault_part : (src : List ℕ) → Part (fault src)
fault_part src = part_then (frame src) (content src) (frame_part src) (content_part src)

-- ---- what is known where no cause holds
-- What a frame without a cause is known to be.
pub record Framed (src : List ℕ) (later : ℕ) : Type 0 where
  pub headed : kind (head src) ≡ 0
  pub short : count src ≤ 2048
  pub whole : count src + 2 ≤ length src
  pub rest : later ≡ 0

pub framed : (src : List ℕ) (later : ℕ) → frame src later ≡ 0 → Framed src later
framed src later e =
    let a = clear (eqb (length src) 0) 8 _ (lit< tt) e in
    let b = clear (not (eqb (kind (head src)) 0)) 9 _ (lit< tt) a.rest in
    let c = clear (ltb 2048 (count src)) 9 _ (lit< tt) b.rest in
    let d = clear (ltb (length src) (count src + 2)) 8 later (lit< tt) c.rest in
    record {
      headed = eqb-true _ _ (not-false _ b.first);
      short = ltb-false _ _ c.first;
      whole = ltb-false _ _ d.first;
      rest = d.rest;
    }

-- src starts with a record.
pub record Recorded (src : List ℕ) : Type 0 where
  pub headed : kind (head src) ≡ 0
  pub short : count src ≤ 2048
  pub whole : count src + 2 ≤ length src
  pub sound : all_sound (sequence src) ≡ true
  pub closed : closes src ≡ true

-- What a chain that begins with the faults of src says where it is accepted.
pub record Faultless (src : List ℕ) (later : ℕ) : Type 0 where
  pub recorded : Recorded src
  pub rest : later ≡ 0

pub faultless : (src : List ℕ) (later : ℕ) → fault src later ≡ 0 → Faultless src later
faultless src later e =
    let a = framed src _ e in
    let b = clear (not (all_sound (sequence src))) 2 _ (lit< tt) a.rest in
    let c = clear (not (closes src)) 10 later (lit< tt) b.rest in
    record {
      recorded =
          record {
            headed = a.headed;
            short = a.short;
            whole = a.whole;
            sound = not-false _ b.first;
            closed = not-false _ c.first;
          };
      rest = c.rest;
    }

pub no_fault : (src : List ℕ) (later : ℕ) → Recorded src → fault src later ≡ later
no_fault src later a =
    rw (
      ne_eqb (length src) 0 (λ z. omega (arith, a.whole)),
      eq-eqb (kind (head src)) 0 a.headed,
      le-ltb 2048 (count src) a.short,
      le-ltb (length src) (count src + 2) a.whole,
      a.sound,
      a.closed,
    )
    refl

-- An accepted src starts with a record that fits.
pub accepted : (src : List ℕ) (room : ℕ) → read_refusal src room ≡ 0 → Recorded src
accepted src room e = (faultless src _ e).recorded

pub accepted_fits : (src : List ℕ) (room : ℕ) → read_refusal src room ≡ 0 → count src ≤ room
accepted_fits src room e = ltb-false _ _ (clear (ltb room (count src)) 11 0 (lit< tt) (faultless src _ e).rest).first

pub read_accepts : (src : List ℕ) (room : ℕ) → Recorded src → count src ≤ room → read_refusal src room ≡ 0
read_accepts src room a fits = no_fault src _ a ∙ rw (le-ltb room (count src) fits) refl

-- ---- what the code of a part answered, carried to the whole chain
pub frame_stops : (src : List ℕ) (e : Refusal) (later : ℕ) → number e ≡ frame src 0 → number e ≡ frame src later
frame_stops src e later h = part_stops (frame src) (frame_part src) (number e) later h (never_none e)

-- ---- a chain that begins with the faults of src: a fault stops it, and where there is none what is checked later decides
pub fault_stops : (src : List ℕ) (e : Refusal) (later : ℕ) → number e ≡ fault src 0 → number e ≡ fault src later
fault_stops src e later h = part_stops (fault src) (fault_part src) (number e) later h (never_none e)

pub fault_passed : (src : List ℕ) (r later : ℕ) → 0 ≡ fault src 0 → r ≡ later → r ≡ fault src later
fault_passed src r later z h = part_goes (fault src) (fault_part src) 0 r later z refl h
