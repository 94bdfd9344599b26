-- Either engine, so that what holds of both is said once.
use Rattle.std.specs.Prelude.{ℕ, ◌⊎◌, ◌≡◌, List, length}
use Rattle.tiling.specs.Comparing.{plain_refusal, fast_refusal, InRange}
use Rattle.tiling.specs.Answer.{Compares}
use Rattle.tiling.specs.declared.Compared.{Compared}

-- The fast engine with a bucket count and a first search length. The multiplier is in no promise: it is free.
pub data Engine : Type 0 where
  plain : Engine
  fast : (buckets start : ℕ) → Engine

-- The number of its refusal.
abbrev pub refusal_by : Engine → List ℕ → List ℕ → ℕ → ℕ → ℕ → ℕ
refusal_by plain first second minimum workspace tiles = plain_refusal first second minimum workspace tiles
refusal_by (fast buckets start) first second minimum workspace tiles = fast_refusal first second minimum buckets start workspace tiles

-- What a call of it promises: sequences, minimum, workspace and tile buffer; then the answer, and the workspace and the tile buffer after it. This
-- is the engine's contract, `Plain` or `Fast`: `plain_promise` and `fast_promise` (engines/proofs/Laws.antt).
abbrev pub Promise : Engine → List ℕ → List ℕ → ℕ → List ℕ → List ℕ → Compared → List ℕ → List ℕ → Type 0
Promise e first second minimum ws b a ws' b' = Compares (refusal_by e first second minimum (length ws) (length b)) first second minimum ws b a ws' b'

-- A number by which it refuses its own settings: 4 or 5. The plain engine has none.
abbrev pub OwnRefusal : Engine → ℕ → Type 0
OwnRefusal plain n = ⊥
OwnRefusal (fast buckets start) n = (n ≡ 4) ⊎ (n ≡ 5)

-- Its settings are in range at a minimum.
abbrev pub SetFor : Engine → ℕ → Type 0
SetFor plain minimum = Unit {0}
SetFor (fast buckets start) minimum = InRange minimum buckets start
