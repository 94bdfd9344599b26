-- What is exported of an outcome, in which a refusal is its number and zeros, and yes is 1.
use Rattle.std.specs.Prelude.{Result, Ok, Err}
use Rattle.refusal.specs.Number.{number}
use Rattle.refusal.specs.declared.Refusal.{Refusal}
use Rattle.tiling.specs.Tally.{one}
use Rattle.threshold.specs.declared.Told.{Told}
use Rattle.threshold.specs.declared.Verdict.{Verdict}

abbrev pub told_as : Result Verdict Refusal → Told
told_as (Ok v) = record { refusal = 0; reached = one v.reached; tiles = v.tiles }
told_as (Err e) = record { refusal = number e; reached = 0; tiles = 0 }
