-- The number of each refusal, as 01's table has it; and what is exported of an outcome, in which a refusal is its number.
use Rattle.std.specs.Prelude.{ℕ, Result, Ok, Err}
use Rattle.refusal.specs.declared.Counted.{Counted}
use Rattle.refusal.specs.declared.Refusal.{Refusal}
use Rattle.refusal.specs.declared.Refusal.TheVariants.{TooLong, Unsound, Minimum, Buckets, SearchLength, Workspace, Tiles, CutOff, Header, Trailer, Room, Threshold, Fish, Counts}

abbrev pub number : Refusal → ℕ
number TooLong = 1
number Unsound = 2
number Minimum = 3
number Buckets = 4
number SearchLength = 5
number Workspace = 6
number Tiles = 7
number CutOff = 8
number Header = 9
number Trailer = 10
number Room = 11
number Threshold = 12
number Fish = 13
number Counts = 14

-- 0 where there is no refusal.
abbrev pub numbered : {A : Type 0} → Result A Refusal → ℕ
numbered (Ok a) = 0
numbered (Err e) = number e

-- The answer that is a count or a refusal's number.
abbrev pub counted_as : Result ℕ Refusal → Counted
counted_as (Ok n) = record { refusal = 0; count = n }
counted_as (Err e) = record { refusal = number e; count = 0 }
