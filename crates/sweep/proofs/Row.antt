-- The better of two finds, and how long what a search found can be.
-- Assumes nothing.
use Prim.Native.Nat.{ℕ, ◌≤◌, ◌<◌, min}
use native.Mathlib.Decide.{dec_lt}
use native.Mathlib.Omega.{arith}
use mathlib.Core.Path.{◌≡◌, refl}
use mathlib.Core.List.{List}
use borrow.Author.Tests.{lt-ltb, le-ltb}
use lib.ListN.{length, drop}
use Rattle.tiling.proofs.Run.{run_within}
use Rattle.tile.specs.declared.TextAt.{TextAt}
use Rattle.sweep.specs.Row.{Row, better}
use Rattle.sweep.specs.declared.Found.{Found}

pub better_new : (f : Found) (t : TextAt) (len : ℕ) → f.len < len → record { t = t; len = len } ≡ better f t len
unfolding better
better_new f t len h = rw (better, lt-ltb f.len len h) refl

pub better_old : (f : Found) (t : TextAt) (len : ℕ) → len ≤ f.len → f ≡ better f t len
unfolding better
better_old f t len h = rw (better, le-ltb f.len len h) refl

-- What is found is no shorter than before: so an offset up to that is one still.
pub better_least : (f g : Found) (t : TextAt) (len d : ℕ) → g ≡ better f t len → d ≡ min len f.len → d ≤ g.len
better_least f g t len d e k = go (dec_lt f.len len)
  where
    go : Dec (f.len < len) → d ≤ g.len
    go (yes h) = rw (e, ← better_new f t len h) (omega (arith, k))
    go (no h) = rw (e, ← better_old f t len (omega (arith, h))) (omega (arith, k))

-- What was found is the floor or a run, so it is no longer than what both are.
pub row_small : (ps ts : List ℕ) (floor n : ℕ) (f : Found) → Row ps ts floor f → floor ≤ n → length ps ≤ n → f.len ≤ n
row_small ps ts floor n f r h k = go (dec_lt floor f.len)
  where
    go : Dec (floor < f.len) → f.len ≤ n
    go (yes l) = omega (arith, r.long l, run_within ps (drop f.t.0 ts))
    go (no l) = omega (arith, l)
