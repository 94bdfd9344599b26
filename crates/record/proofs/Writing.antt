-- What an accepted sequence is known to be, and why the stores of a header, a sequence and a trailer write its record.
-- Assumes nothing.
use Prim.Native.Nat.{ℕ, ◌+◌, ◌-◌, ◌≤◌}
use native.Mathlib.Omega.{arith}
use native.Mathlib.Numerals.{add-one}
use mathlib.Core.Path.{◌≡◌, refl, ◌∙◌, ap}
use mathlib.Core.Bool.{true}
use mathlib.Core.List.{List, [], ◌∷◌, ◌++◌}
use lib.Dec.{lit<}
use lib.ListN.{length, get_or, take, drop, set}
use lib.Seq.{take_at}
use borrow.Author.Tests.{le-ltb, ltb-false, not-false}
use Rattle.symbol.specs.Sequence.{all_sound}
use Rattle.buffer.specs.Buffer.{onto}
use Rattle.buffer.proofs.Buffer.{onto_more, onto_part}
use Rattle.record.specs.Format.{header, trailer, encode}
use Rattle.record.specs.Writing.{write_refusal}
use Rattle.record.proofs.Reading.{take_head, part_words}
use Rattle.refusal.proofs.Causes.{clear}

-- A sequence that can be written to room words.
pub record Writable (s : List ℕ) (room : ℕ) : Type 0 where
  pub short : length s ≤ 2048
  pub sound : all_sound s ≡ true
  pub fits : length s + 2 ≤ room

pub writable : (s : List ℕ) (room : ℕ) → write_refusal s room ≡ 0 → Writable s room
writable s room e =
    let a = clear _ 1 _ (lit< tt) e in
    let b = clear _ 2 _ (lit< tt) a.rest in
    let c = clear _ 11 _ (lit< tt) b.rest in
    record {
      short = ltb-false _ _ a.first;
      sound = not-false _ b.first;
      fits = ltb-false _ _ c.first;
    }

pub write_accepts : (s : List ℕ) (room : ℕ) → Writable s room → write_refusal s room ≡ 0
write_accepts s room w = rw (le-ltb 2048 (length s) w.short, w.sound, le-ltb room (length s + 2) w.fits) refl

-- ---- what is stored
-- The trailer goes after a header and n words.
pub close_put : (b b' : List ℕ) (n t : ℕ) → n + 2 ≤ length b → t ≡ trailer (get_or b 0 0 ∷ take (n + 1 - 1) (drop 1 b)) → b' ≡ set b (n + 1) t → b' ≡ set b (n + 1) (trailer (take (n + 1) b))
close_put b b' n t room e k = rw (take_head b n (λ z. omega (arith, room)), ← part_words b n, ← e) k

-- A header is put, n words go after it, and then the trailer: each just after the words already written.
pub closed : (h : ℕ) (s b b₁ part b₂ : List ℕ) → length s + 2 ≤ length b → b₁ ≡ set b 0 h → part ≡ onto s (take (length s + 1 - 1) (drop 1 b₁)) → b₂ ≡ set (take 1 b₁ ++ (part ++ drop (length s + 1 - 1) (drop 1 b₁))) (length s + 1) (trailer (take (length s + 1) (take 1 b₁ ++ (part ++ drop (length s + 1 - 1) (drop 1 b₁))))) → b₂ ≡ onto (h ∷ s ++ (trailer (h ∷ s) ∷ [])) b
closed h s b b₁ part b₂ fits p q k =
    let n : length s + 1 - 1 ≡ length s = omega arith in
    let one : b₁ ≡ onto (h ∷ []) b = p ∙ onto_more [] b h (omega arith) in
    let front : take 1 b₁ ++ (part ++ drop (length s + 1 - 1) (drop 1 b₁)) ≡ onto (h ∷ s) b = rw (q, n, one) (onto_part (h ∷ []) s b 1 refl) in
    let words : take (length s + 1) (onto (h ∷ s) b) ≡ h ∷ s = take_at (h ∷ s) _ (length s + 1) (omega arith) in
    rw (k, front, words, add-one (length s)) (onto_more (h ∷ s) b (trailer (h ∷ s)) (omega arith))

pub written : (id h : ℕ) (s b b' : List ℕ) → h ≡ header id (length s) → b' ≡ onto (h ∷ s ++ (trailer (h ∷ s) ∷ [])) b → b' ≡ onto (encode id s) b
unfolding encode
written id h s b b' p k = k ∙ ap (λ (x : ℕ). onto (x ∷ s ++ (trailer (x ∷ s) ∷ [])) b) p
