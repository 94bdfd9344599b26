-- The entries, filled from the last to the first: at each minimum the walk goes on over the tiles that have it, and what is passed then is
-- what they cover. A walk for a length is one for any smaller length.
-- Assumes nothing.
use Prim.Native.Nat.{ℕ, ◌*◌, ◌≤◌}
use native.Mathlib.Omega.{arith}
use mathlib.Core.Path.{◌≡◌}
use mathlib.Core.List.{List}
use lib.ListN.{length}
use Rattle.buffer.specs.Buffer.{onto, tabulate}
use Rattle.buffer.proofs.Buffer.{Filling, filling_all}
use Rattle.tiling.specs.Listing.{covered}
use Rattle.tiling.specs.Demand.{tiles_in}
use Rattle.cover.specs.Walked.{cover_of, Walked}

pub record Entered (tiles : List ℕ) (count : ℕ) (e₀ e : List ℕ) (minimum passed words : ℕ) : Type 0 where
  pub whole : 3 * count ≤ length tiles
  pub few : covered (tiles_in count tiles) ≤ 2048
  pub walked : Walked (tiles_in count tiles) minimum passed words
  pub filling : Filling (cover_of (tiles_in count tiles)) 256 e₀ e minimum

module _ (tiles : List ℕ) (count : ℕ) (e₀ e : List ℕ) (minimum passed words : ℕ) (r : Entered tiles count e₀ e minimum passed words) where
  pub entered_all : minimum ≤ 0 → e ≡ onto (tabulate (cover_of (tiles_in count tiles)) 256) e₀
  entered_all h = filling_all (cover_of (tiles_in count tiles)) 256 e₀ e minimum r.filling (omega arith)
