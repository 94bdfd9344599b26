-- Two words side by side: at none of the positions before are they both there.
-- Assumes nothing.
use Prim.Native.Nat.{ℕ, ◌<◌}
use native.Mathlib.Omega.{arith}
use mathlib.Core.Path.{◌≡◌, refl, sym, ◌∙◌}
use mathlib.Core.Bool.{true, false}
use mathlib.Core.List.{List}
use borrow.Author.Tests.{eq-eqb}
use lib.ListN.{get_or}
use Rattle.tiling.proofs.Leading.{leading_passes}
use Rattle.measure.specs.Before.{other_than, before}

both_here : (a b x y : ℕ) → x ≡ a → y ≡ b → other_than a b x y ≡ false
both_here a b x y p q = rw (eq-eqb x a p, eq-eqb y b q) refl

module _ (a b : ℕ) (xs ys : List ℕ) where
  pub before_passes : (i : ℕ) → i < before a b xs ys → get_or xs i 0 ≡ a → get_or ys i 0 ≡ b → ⊥
  before_passes i h p q = let z : true ≡ false = sym (leading_passes (other_than a b) xs ys i h) ∙ both_here a b _ _ p q in let o : ◌≡◌ {A = ℕ} 0 1 = cc in omega arith
