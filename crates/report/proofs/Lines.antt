-- The lines of the report are written one after another, so together they are the report.
-- Assumes nothing.
use Prim.Native.Nat.{ℕ, ◌+◌, ◌*◌, ◌≤◌, ◌<◌}
use native.Mathlib.Nat.{lt_of_le_of_lt}
use native.Mathlib.Omega.{arith}
use mathlib.Core.Path.{◌≡◌, ◌∙◌, ap}
use mathlib.Core.List.{List, [], ◌∷◌}
use lib.IntN.{ℤ, pos, ◌-ℤ◌}
use mir.Syntax.{w32}
use mir.Val.{SFits, of_z, to_z}
use mir.Facts.{to_z-of_z}
use Rattle.tiling.specs.Listing.{shift}
use Rattle.tiling.specs.Demand.{tiles_in}
use Rattle.std.specs.Prelude.{Ok}
use Rattle.tiling.specs.Outcome.{compared_as}
use Rattle.tiling.specs.declared.Summary.{Summary}
use Rattle.lines.specs.Text.{ascii, decimal, signed, spaced, phrase, line}
use Rattle.lines.specs.Appended.{Appended}
use Rattle.lines.proofs.Appended.{both}
use Rattle.tile.proofs.Difference.{difference_size}
use Rattle.report.specs.Pair.{refused_line, shift_end, tile_line, tile_lines, opening, closing, pair_lines}
use Rattle.report.specs.Buffers.{report_bytes}
use Rattle.report.specs.Written.{Written, Laid}
use Rattle.tiling.proofs.Tiles.{length_tiles_in}

-- What is appended at position 0 stands at the start.
written : (most : ℕ) (bytes : List ℕ) (r : ℕ) (b b' : List ℕ) → most ≤ report_bytes → Appended most bytes 0 b r b' → Written bytes b r b'
written most bytes r b b' h a = record { count = omega (arith, a.next); few = omega (arith, a.next, a.few); held = a.held }

pub refused_written : (r n : ℕ) (b b' : List ℕ) → Appended 19 (line (ascii "REFUSED") (r ∷ [])) 0 b n b' → Written (refused_line r) b n b'
unfolding refused_line
refused_written r n b b' a = written 19 _ n b b' (omega arith) a

module _ (at p q r : ℕ) (b₀ b₁ b₂ b₃ : List ℕ) where
  pub opened : (a b minimum tiles : ℕ) → Appended 27 (line (ascii "FISH") (a ∷ b ∷ [])) at b₀ p b₁ → Appended 19 (line (ascii "MINIMUM") (minimum ∷ [])) p b₁ q b₂ → Appended 17 (line (ascii "TILES") (tiles ∷ [])) q b₂ r b₃ → Appended 63 (opening a b minimum tiles) at b₀ r b₃
  unfolding opening
  opened a b minimum tiles x y z = both x (both y z)

  pub closed : (sum n m points : ℕ) → Appended 18 (phrase (ascii "COVERED") (sum ∷ [])) at b₀ p b₁ → Appended 26 (line (ascii " OF") (n ∷ m ∷ [])) p b₁ q b₂ → Appended 17 (line (ascii "SCORE") (points ∷ [])) q b₂ r b₃ → Appended 61 (closing sum n m points) at b₀ r b₃
  unfolding closing
  closed sum n m points x y z = both x (both y z)

-- ---- a tile's line
pub place_written : (first second len at p r : ℕ) (b₀ b₁ b₂ : List ℕ) → Appended 10 (decimal first) at b₀ p b₁ → Appended 22 (spaced (second ∷ len ∷ [])) p b₁ r b₂ → Appended 32 (phrase (decimal first) (second ∷ len ∷ [])) at b₀ r b₂
place_written first second len at p r b₀ b₁ b₂ x y = both x y

-- A signed number is handed on as its bits.
pub shift_written : (z : ℤ) (at p q r : ℕ) (b₀ b₁ b₂ b₃ : List ℕ) → SFits w32 z → Appended 1 (ascii " ") at b₀ p b₁ → Appended 11 (signed (to_z w32 (of_z w32 z))) p b₁ q b₂ → Appended 1 (ascii "\n") q b₂ r b₃ → Appended 13 (shift_end z) at b₀ r b₃
unfolding shift_end
shift_written z at p q r b₀ b₁ b₂ b₃ s x y end = both x (both (rw (to_z-of_z s) at y) end)

pub tile_written : (first second len : ℕ) (z : ℤ) (at p r : ℕ) (b₀ b₁ b₂ : List ℕ) → first < 2048 → second < 2048 → ((n : ℕ) → z ≡ shift (record { first = first; second = second; len = n })) → Appended 32 (phrase (decimal first) (second ∷ len ∷ [])) at b₀ p b₁ → Appended 13 (shift_end (to_z w32 (of_z w32 z))) p b₁ r b₂ → Appended 45 (tile_line (record { first = first; second = second; len = len })) at b₀ r b₂
unfolding tile_line shift
tile_written first second len z at p r b₀ b₁ b₂ f s k x y =
    let small : SFits w32 (pos second -ℤ pos first) = record { sfits = lt_of_le_of_lt (difference_size second first) (omega arith) } in
    let read : to_z w32 (of_z w32 z) ≡ pos second -ℤ pos first = ap (λ u. to_z w32 (of_z w32 u)) (k len) ∙ to_z-of_z small in
    both x (rw read at y)

-- ---- the whole report of an accepted comparison
pub pair_written : (n m : ℕ) (s : Summary) (tiles : List ℕ) (i j minimum p q r : ℕ) (b₀ b₁ b₂ b₃ : List ℕ) → Laid n m (compared_as (Ok s)) tiles → Appended 63 (opening i j minimum s.tiles) 0 b₀ p b₁ → Appended (45 * s.tiles) (tile_lines (tiles_in s.tiles tiles)) p b₁ q b₂ → Appended 61 (closing s.covered n m s.score) q b₂ r b₃ → Written (pair_lines i j minimum n m (tiles_in s.tiles tiles)) b₀ r b₃
unfolding pair_lines
pair_written n m s tiles i j minimum p q r b₀ b₁ b₂ b₃ l x y z =
    let few : 63 + (45 * s.tiles + 61) ≤ report_bytes = omega (arith, l.few) in
    rw (length_tiles_in s.tiles tiles, ← l.covered, ← l.score) (written _ _ r b₀ b₃ few (both x (both y z)))
