-- What holds of all entries of a list, and what holds between any two of them.
use Rattle.std.specs.Prelude.{List, [], ◌∷◌}

-- Q holds of each entry of a list.
pub data Each {A : Type 0} (Q : A → Type 0) : List A → Type 0 where
  none : Each Q []
  also : {x : A} {xs : List A} → Q x → Each Q xs → Each Q (x ∷ xs)

-- R holds between each entry of a list and every later one.
pub data Pairs {A : Type 0} (R : A → A → Type 0) : List A → Type 0 where
  no_pair : Pairs R []
  before : {x : A} {xs : List A} → Each (R x) xs → Pairs R xs → Pairs R (x ∷ xs)
