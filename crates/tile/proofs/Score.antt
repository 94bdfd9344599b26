-- The score of a comparison as the code computes it.
-- Assumes nothing.
use Prim.Native.Nat.{ℕ, zero, suc, ◌*◌, ◌/◌}
use native.Mathlib.Omega.{arith}
use mathlib.Core.Path.{◌≡◌, refl}
use Rattle.tiling.specs.Listing.{score}

pub score_none : (covered total : ℕ) → total ≡ 0 → 0 ≡ score covered total
unfolding score
score_none covered zero e = refl
score_none covered (suc total) e = absurd (omega arith)

pub score_some : (covered total : ℕ) → (total ≡ 0 → ⊥) → 2000 * covered / total ≡ score covered total
unfolding score
score_some covered zero d = absurd (d refl)
score_some covered (suc total) d = refl
