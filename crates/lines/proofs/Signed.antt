-- A signed number is written as its size, after a minus where it is below zero.
-- Assumes nothing.
use Prim.Native.Nat.{ℕ, suc}
use native.Mathlib.Nat.{not-suc-le-zero}
use native.Mathlib.Omega.{arith}
use mathlib.Core.Path.{◌≡◌}
use mathlib.Core.Bool.{true, false}
use mathlib.Core.List.{List, [], ◌∷◌}
use lib.IntN.{ℤ, pos, negsuc, nat_abs}
use lib.Signed.{lt_z}
use borrow.Author.Tests.{ltb-true}
use mir.Syntax.{w32}
use mir.Val.{SFits, of_z, to_z}
use mir.Facts.{to_z-of_z}
use Rattle.lines.specs.Text.{ascii, decimal, signed}
use Rattle.lines.specs.Appended.{Appended}
use Rattle.lines.proofs.Appended.{both, fewer}

pub signed_below : (z : ℤ) (size at at₁ at₂ : ℕ) (b b₁ b₂ : List ℕ) → SFits w32 z → lt_z (to_z w32 (of_z w32 z)) (pos 0) ≡ true → size ≡ nat_abs (to_z w32 (of_z w32 z)) → Appended 1 (45 ∷ []) at b at₁ b₁ → Appended 10 (decimal size) at₁ b₁ at₂ b₂ → Appended 11 (signed z) at b at₂ b₂
unfolding signed ascii
signed_below (pos n) size at at₁ at₂ b b₁ b₂ s e k p q = absurd (not-suc-le-zero (ltb-true n 0 (rw (to_z-of_z s) at e)))
signed_below (negsuc n) size at at₁ at₂ b b₁ b₂ s e k p q = let size_is : size ≡ suc n = rw (to_z-of_z s) at k in rw (← size_is) (both p q)

pub signed_other : (z : ℤ) (size at at₁ : ℕ) (b b₁ : List ℕ) → SFits w32 z → lt_z (to_z w32 (of_z w32 z)) (pos 0) ≡ false → size ≡ nat_abs (to_z w32 (of_z w32 z)) → Appended 10 (decimal size) at b at₁ b₁ → Appended 11 (signed z) at b at₁ b₁
unfolding signed
signed_other (pos n) size at at₁ b b₁ s e k p = let size_is : size ≡ n = rw (to_z-of_z s) at k in rw (← size_is) (fewer 11 (omega arith) p)
signed_other (negsuc n) size at at₁ b b₁ s e k p =
    let f : true ≡ false = rw (to_z-of_z s) at e in
    let z : ◌≡◌ {A = ℕ} 0 1 = cc in
    absurd (omega arith)
