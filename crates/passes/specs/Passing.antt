-- The passes of a comparison, one after another. No reader of the engine's contract needs it.
use Rattle.std.specs.Prelude.{ℕ, ◌≡◌}
use Rattle.index.specs.declared.pass.Pass.{Pass}

-- The same pass at another search length.
pub record AtLength (x : Pass) (s : ℕ) (y : Pass) : Type 0 where
  pub job : y.job ≡ x.job
  pub length : y.s ≡ s
  pub multiplier : y.multiplier ≡ x.multiplier
  pub buckets : y.buckets ≡ x.buckets
