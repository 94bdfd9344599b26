-- The free words that a list begins with: a marked word ends them, and they go on as long as none is.
-- Assumes nothing.
use Prim.Native.Nat.{ℕ, zero, suc, ◌≤◌, ◌<◌}
use native.Mathlib.Omega.{arith}
use mathlib.Core.Path.{◌≡◌, refl}
use mathlib.Core.List.{List, [], ◌∷◌}
use lib.ListN.{get_or}
use Rattle.tiling.specs.Stretch.{free_first}

pub free_most : (ws : List ℕ) (i : ℕ) → get_or ws i 0 ≡ 0 → free_first ws ≤ i
unfolding free_first
free_most [] i z = omega arith
free_most (zero ∷ ws) i z = omega arith
free_most (suc w ∷ ws) zero z = absurd (omega (arith, z))
free_most (suc w ∷ ws) (suc i) z = omega (arith, free_most ws i z)

pub free_least : (ws : List ℕ) (n : ℕ) → ((i : ℕ) → i < n → get_or ws i 0 ≡ 0 → ⊥) → n ≤ free_first ws
unfolding free_first
free_least ws zero free = omega arith
free_least [] (suc n) free = absurd (free 0 (omega arith) refl)
free_least (zero ∷ ws) (suc n) free = absurd (free 0 (omega arith) refl)
free_least (suc w ∷ ws) (suc n) free = omega (arith, free_least ws n (λ i l. free (suc i) (omega arith)))
