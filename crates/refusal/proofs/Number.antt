-- No refusal has the number 0, so what a chain of causes ends in that is refused does not hang on what is checked later.
-- Assumes nothing.
use Prim.Native.Nat.{ℕ}
use mathlib.Core.Path.{◌≡◌}
use mathlib.Core.Bool.{Bool, true, false}
use Rattle.refusal.specs.Refusal.{refuse}
use Rattle.refusal.specs.Number.{number}
use Rattle.refusal.specs.declared.Refusal.{Refusal}
use Rattle.refusal.proofs.Causes.{never_none}

pub number_some : (e : Refusal) → number e ≡ 0 → ⊥
number_some e = never_none e

-- A refusal that a chain ends in where nothing is checked later, is what it ends in whatever is checked later: link by link, and at its end.
pub stops : (e : Refusal) (t : Bool) (n : ℕ) {x y : ℕ} → (number e ≡ x → number e ≡ y) → number e ≡ refuse t n x → number e ≡ refuse t n y
stops e true n f c = c
stops e false n f c = f c

pub stopped : (e : Refusal) (later : ℕ) → number e ≡ 0 → number e ≡ later
stopped e later c = absurd (number_some e c)
