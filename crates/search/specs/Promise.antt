-- What a call of the fast engine promises, whatever it is given.
use Rattle.std.specs.Prelude.{ℕ, List, length}
use Rattle.tiling.specs.Comparing.{fast_refusal}
use Rattle.tiling.specs.Answer.{Compares}
use Rattle.tiling.specs.declared.Compared.{Compared}

-- Sequences, minimum, bucket count, first search length, workspace and tile buffer; then the answer, and the workspace and the tile buffer
-- after it. The multiplier decides nothing that can be seen.
abbrev pub Fast : List ℕ → List ℕ → ℕ → ℕ → ℕ → List ℕ → List ℕ → Compared → List ℕ → List ℕ → Type 0
Fast first second minimum buckets start ws b a ws' b' = Compares (fast_refusal first second minimum buckets start (length ws) (length b)) first second minimum ws b a ws' b'
