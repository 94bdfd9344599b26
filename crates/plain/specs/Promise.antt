-- What a call of the plain engine promises, whatever it is given.
use Rattle.std.specs.Prelude.{ℕ, List, length}
use Rattle.tiling.specs.Comparing.{plain_refusal}
use Rattle.tiling.specs.Answer.{Compares}
use Rattle.tiling.specs.declared.Compared.{Compared}

-- Sequences, minimum, workspace and tile buffer; then the answer, and the workspace and the tile buffer after it.
abbrev pub Plain : List ℕ → List ℕ → ℕ → List ℕ → List ℕ → Compared → List ℕ → List ℕ → Type 0
Plain first second minimum ws b a ws' b' = Compares (plain_refusal first second minimum (length ws) (length b)) first second minimum ws b a ws' b'
