-- How many rows have a new bound after one was searched, as the code tests it.
-- Assumes nothing.
use Prim.Native.Nat.{ℕ}
use mathlib.Core.Path.{◌≡◌, refl}
use borrow.Author.Tests.{eq-eqb, ne_eqb}
use Rattle.sweep.specs.Settled.{settled_rows}
use Rattle.sweep.specs.declared.Totals.{Totals}

pub settled_row : (before after : Totals) (level : ℕ) → before.count ≡ after.count → 1 ≡ settled_rows before after level
unfolding settled_rows
settled_row before after level e = rw (settled_rows, eq-eqb before.count after.count e) refl

pub settled_tile : (before after : Totals) (level : ℕ) → (before.count ≡ after.count → ⊥) → level ≡ settled_rows before after level
unfolding settled_rows
settled_tile before after level d = rw (settled_rows, ne_eqb before.count after.count d) refl
