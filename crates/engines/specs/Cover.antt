-- Two calls for what a pair covers at every minimum, of which the second had the sequences exchanged.
use Rattle.std.specs.Prelude.{ℕ, ◌<◌, ◌≡◌, List, get_or}
use Rattle.tiling.specs.Demand.{Exchanges}
use Rattle.tiling.specs.declared.Compared.{Compared}

-- The replies and the tiles are those of two comparisons so exchanged, and the entries are equal.
pub record CoverExchanges (a : Compared) (b e : List ℕ) (a' : Compared) (b' e' : List ℕ) : Type 0 where
  pub exchanges : Exchanges a b a' b'
  pub entries : (k : ℕ) → k < 256 → get_or e' k 0 ≡ get_or e k 0
