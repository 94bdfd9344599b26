-- What a chain holds, as a list.
use Rattle.std.specs.Prelude.{ℕ, zero, suc, true, false, List, [], ◌∷◌, ltb, length}
use Rattle.chain.specs.Chain.{next_of}

-- The positions that are reached from one on, each from the one before it, as many as n at the most.
unfoldable pub reached : List ℕ → ℕ → ℕ → List ℕ
reached es zero at = []
reached es (suc n) at = elim (ltb at (length es)) [ true ↦ at ∷ reached es n (next_of es at) | false ↦ [] ]

-- The unmarked positions of a list in rising order, where its first word stands at a position.
unfoldable pub unmarked : ℕ → List ℕ → List ℕ
unmarked at [] = []
unmarked at (zero ∷ ws) = unmarked (suc at) ws
unmarked at (suc w ∷ ws) = at ∷ unmarked (suc at) ws
