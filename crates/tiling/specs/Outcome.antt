-- What is exported of a comparison's outcome, in which a refusal is its number and zeros.
use Rattle.std.specs.Prelude.{Result, Ok, Err}
use Rattle.refusal.specs.Number.{number}
use Rattle.refusal.specs.declared.Refusal.{Refusal}
use Rattle.tiling.specs.declared.Compared.{Compared}
use Rattle.tiling.specs.declared.Summary.{Summary}

abbrev pub compared_as : Result Summary Refusal → Compared
compared_as (Ok s) = record { refusal = 0; tiles = s.tiles; covered = s.covered; score = s.score }
compared_as (Err e) = record { refusal = number e; tiles = 0; covered = 0; score = 0 }
