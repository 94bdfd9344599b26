-- Two calls for a threshold, of which the second had the sequences exchanged.
use Rattle.std.specs.Prelude.{◌≡◌}
use Rattle.threshold.specs.declared.Told.{Told}

-- Both say yes or both no, after equally many tiles.
pub record ThresholdExchanges (a a' : Told) : Type 0 where
  pub refusal : a'.refusal ≡ a.refusal
  pub reached : a'.reached ≡ a.reached
  pub tiles : a'.tiles ≡ a.tiles
