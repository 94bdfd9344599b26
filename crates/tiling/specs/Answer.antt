-- What a comparison leaves behind, whichever engine made it: functions of the refusal's number r (0 for none) and of the tiles.
use Rattle.std.specs.Prelude.{ℕ, ◌+◌, ◌≡◌, List, length, replicate}
use Rattle.refusal.specs.Refusal.{outcome}
use Rattle.buffer.specs.Buffer.{onto}
use Rattle.tiling.specs.Listing.{Entry, listing, tile_words, covered, score}
use Rattle.tiling.specs.declared.Compared.{Compared}

-- "An accepted comparison answers tile count, covered and score." The total is the sum of both lengths.
abbrev pub compared : ℕ → List Entry → ℕ → Compared
compared r tiles total =
    record {
      refusal = r;
      tiles = outcome r (length tiles) 0;
      covered = outcome r (covered tiles) 0;
      score = outcome r (score (covered tiles) total) 0;
    }

-- "Words beyond the last tile keep their values."
abbrev pub tile_buffer : ℕ → List Entry → List ℕ → List ℕ
tile_buffer r tiles buffer = outcome r (onto (tile_words tiles) buffer) buffer

-- "After an accepted comparison the whole lent workspace is zero, whatever it held before."
abbrev pub cleared : ℕ → List ℕ → List ℕ
cleared r workspace = outcome r (replicate (length workspace) 0) workspace

-- A comparison with the refusal's number r was lent the workspace ws and the tile buffer b; it answers a and leaves ws' and b'.
-- "Both engines' promises fix these three, the tile buffer and the workspace for each possible input".
pub record Compares (r : ℕ) (first second : List ℕ) (minimum : ℕ) (ws b : List ℕ) (a : Compared) (ws' b' : List ℕ) : Type 0 where
  pub answer : a ≡ compared r (listing first second minimum) (length first + length second)
  pub tiles : b' ≡ tile_buffer r (listing first second minimum) b
  pub workspace : ws' ≡ cleared r ws
