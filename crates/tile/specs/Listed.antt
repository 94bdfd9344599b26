-- A tile as it is listed, by which sequence is the pattern.
use Rattle.std.specs.Prelude.{Bool, true, false}
use Rattle.tiling.specs.Tiling.{Tile}
use Rattle.tiling.specs.Listing.{Entry, straight, crossed}

-- The pattern is the first sequence where the flag is true, else the second.
abbrev pub listed : Bool → Tile → Entry
listed true = straight
listed false = crossed
