-- Looking for two words side by side. No reader of the engines' contracts needs it.
use Rattle.std.specs.Prelude.{ℕ, Bool, ◌||◌, not, List, eqb}
use Rattle.tiling.specs.Run.{leading}

-- Not both a and b.
abbrev pub other_than : ℕ → ℕ → ℕ → ℕ → Bool
other_than a b x y = not (eqb x a) || not (eqb y b)

-- How many positions come before the first at which one list has a and the other b; where none does, as many as both lists have.
abbrev pub before : ℕ → ℕ → List ℕ → List ℕ → ℕ
before a b = leading (other_than a b)
