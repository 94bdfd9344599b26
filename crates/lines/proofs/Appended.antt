-- Why what is appended piece by piece is appended whole: the second piece goes just after the first, so the two are one.
-- Assumes nothing.
use Prim.Native.Nat.{ℕ, ◌+◌, ◌≤◌}
use native.Mathlib.Omega.{arith}
use mathlib.Core.Path.{◌≡◌, refl, sym, ◌∙◌}
use mathlib.Core.List.{List, [], ◌++◌, append_assoc}
use lib.ListN.{length, take, drop, length-append, take-append-drop}
use lib.Seq.{take_at, drop_at, drop-drop, length-take-le}
use Rattle.lines.specs.Appended.{Appended}

-- Nothing appended.
pub nothing : (at : ℕ) (b : List ℕ) → at ≤ length b → Appended 0 [] at b at b
nothing at b h = record { within = h; few = omega arith; next = omega arith; held = sym (take-append-drop at b) }

-- A text copied to the part of a buffer that is as long.
pub appended : (at n : ℕ) (b part text : List ℕ) → at + length text ≤ length b → n ≡ length text → part ≡ text → Appended (length text) text at b (at + length text) (take at b ++ (part ++ drop n (drop at b)))
appended at n b part text fits k e =
    record { within = omega arith; few = omega arith; next = refl; held = rw (e, k) refl }

-- The bytes may be said to be fewer than more.
pub fewer : {m : ℕ} (n : ℕ) {xs : List ℕ} {at at' : ℕ} {b b' : List ℕ} → m ≤ n → Appended m xs at b at' b' → Appended n xs at b at' b'
fewer n h a = record { within = a.within; few = omega (arith, a.few); next = a.next; held = a.held }

-- One piece after another.
module _ {m n : ℕ} {xs ys : List ℕ} {at at₁ at₂ : ℕ} {b b₁ b₂ : List ℕ} (p : Appended m xs at b at₁ b₁) (q : Appended n ys at₁ b₁ at₂ b₂) where
  pub both : Appended (m + n) (xs ++ ys) at b at₂ b₂
  both =
      let front = take at b ++ xs in
      let rest = drop (length xs) (drop at b) in
      let whole : b₁ ≡ front ++ rest = p.held ∙ sym (append_assoc (take at b) xs rest) in
      let size : length front ≡ at₁ =
      omega (arith, length-append (take at b) xs, length-take-le at b p.within, p.next) in
      record {
        within = p.within;
        few = omega (arith, length-append xs ys, p.few, q.few);
        next = omega (arith, length-append xs ys, p.next, q.next);
        held =
            q.held
            ∙ rw (
              whole,
              take_at front rest at₁ size,
              drop_at front rest at₁ size,
              drop-drop (length ys) (length xs) (drop at b),
              length-append xs ys,
              append_assoc (take at b) xs (ys ++ drop (length xs + length ys) (drop at b)),
              append_assoc xs ys (drop (length xs + length ys) (drop at b)),
            )
            refl;
      }
