-- To stop when it is told is no guess: the tiles still to come lie in free stretches of the pattern that are at least the minimum long, one after
-- another, so they cover no more than these have. So the first tiles decide what all of them would.
-- Assumes nothing.
use Prim.Native.Nat.{ℕ, ◌+◌, ◌≤◌, ◌<◌}
use native.Mathlib.Decide.{dec_le}
use native.Mathlib.Omega.{arith}
use mathlib.Core.Path.{◌≡◌, refl, sym, ◌∙◌, ap}
use mathlib.Core.Bool.{Bool, true, false}
use mathlib.Core.List.{List, [], ◌∷◌, map}
use borrow.Author.Tests.{le-leb, lt-leb, le-ltb}
use lib.Dec.{leb}
use Rattle.tiling.specs.Tiling.{Tile, State, start, best, size, on_pattern, lay, tiling}
use Rattle.tiling.specs.Greedy.{Greedy, done, more}
use Rattle.tiling.specs.Stretch.{fillable}
use Rattle.tiling.specs.Choice.{first_is_pattern, pattern_of, text_of}
use Rattle.tiling.specs.Listing.{listing, covered}
use Rattle.tiling.specs.Until.{unlaid, until, first_listed}
use Rattle.tiling.proofs.Run.{not_zero_left}
use Rattle.tiling.proofs.Tiling.{best_lies, tiling_greedy}
use Rattle.tiling.proofs.Until.{until_stops, until_goes}
use Rattle.tile.specs.Listed.{listed}
use Rattle.stretch.proofs.Fillable.{tile_takes}
use Rattle.sweep.specs.Goal.{stopped}
use Rattle.sweep.specs.declared.Goal.{Goal}
use Rattle.ends.proofs.Opening.{listing_is}
use Rattle.ends.proofs.Ending.{first_listed_is}

-- How many words some tiles cover, however they are listed.
sizes : List Tile → ℕ
sizes [] = 0
sizes (k ∷ ks) = k.len + sizes ks

covered_sizes : (t : Bool) (ks : List Tile) → covered (map (listed t) ks) ≡ sizes ks
unfolding covered sizes
covered_sizes t [] = refl
covered_sizes true (k ∷ ks) = ap (λ n. k.len + n) (covered_sizes true ks)
covered_sizes false (k ∷ ks) = ap (λ n. k.len + n) (covered_sizes false ks)

-- A tile takes its words from the stretches that are long enough.
tile_fits : (minimum : ℕ) (s : State) → 1 ≤ minimum → minimum ≤ (best s).len → (best s).len + fillable minimum (lay s (best s)).pattern ≤ fillable minimum s.pattern
unfolding lay
tile_fits minimum s one h =
    let l = best_lies s (omega arith) in
    omega (arith, tile_takes minimum (best s).p (best s).len s.pattern (omega arith) h l.in_pattern (λ i m. not_zero_left _ _ (l.matching i m)))

-- So all that are laid from a state fit there.
greedy_fits : {minimum : ℕ} {s : State} {ks : List Tile} → 1 ≤ minimum → Greedy best size lay minimum s ks → sizes ks ≤ fillable minimum s.pattern
unfolding sizes
greedy_fits one (done h) = omega arith
greedy_fits {minimum} one (more {s = s} h g) = omega (arith, greedy_fits one g, tile_fits minimum s one h)

-- Two sums that both reach w, and two that both do not.
both_reach : (w a b : ℕ) → w ≤ a → w ≤ b → leb w a ≡ leb w b
both_reach w a b h k = le-leb w a h ∙ sym (le-leb w b k)

neither_reaches : (w a b : ℕ) → a < w → b < w → leb w a ≡ leb w b
neither_reaches w a b h k = lt-leb w a h ∙ sym (lt-leb w b k)

module _ (w minimum : ℕ) (g : Goal) (enough : g.enough ≡ w) (needed : g.needed ≡ w) (one : 1 ≤ minimum) where
  -- At the goal no later tile changes whether w words are reached.
  at_goal_lem : (c : ℕ) (s : State) (ks : List Tile) → stopped g minimum (record { covered = c; pattern = s.pattern }) ≡ true → sizes ks ≤ fillable minimum s.pattern → leb w (c + 0) ≡ leb w (c + sizes ks)
  unfolding stopped
  at_goal_lem c s ks e h = go (dec_le w c) (dec_le w (c + fillable minimum s.pattern))
    where
      going : c < w → w ≤ c + fillable minimum s.pattern → true ≡ false
      going l m = sym e ∙ (rw (enough, needed, lt-leb w c l, le-ltb (c + fillable minimum s.pattern) w m) refl)

      go : Dec (w ≤ c) → Dec (w ≤ c + fillable minimum s.pattern) → leb w (c + 0) ≡ leb w (c + sizes ks)
      go (yes l) d = both_reach w (c + 0) (c + sizes ks) (omega arith) (omega arith)
      go (no l) (yes m) = let f : true ≡ false = going (omega (arith, l)) m in let z : ◌≡◌ {A = ℕ} 0 1 = cc in absurd (omega arith)
      go (no l) (no m) = neither_reaches w (c + 0) (c + sizes ks) (omega (arith, l)) (omega (arith, m))

  -- So the tiles until then decide.
  until_decides : {s : State} {ks : List Tile} → Greedy best size lay minimum s ks → (c : ℕ) → leb w (c + sizes (until on_pattern size (stopped g minimum) (record { covered = c; pattern = s.pattern }) ks)) ≡ leb w (c + sizes ks)
  unfolding until sizes lay
  until_decides (done h) c = refl
  until_decides (more {s = s} {ks = ks} h g₁) c = go (until_decides g₁ (c + (best s).len)) (stopped g minimum (record { covered = c; pattern = s.pattern })) refl
    where
      rest : List Tile
      rest = until on_pattern size (stopped g minimum) (record { covered = c + (best s).len; pattern = (lay s (best s)).pattern }) ks

      go : leb w (c + (best s).len + sizes rest) ≡ leb w (c + (best s).len + sizes ks) → (t : Bool) → stopped g minimum (record { covered = c; pattern = s.pattern }) ≡ t → leb w (c + sizes (until on_pattern size (stopped g minimum) (record { covered = c; pattern = s.pattern }) (best s ∷ ks))) ≡ leb w (c + sizes (best s ∷ ks))
      go r true e =
          ap (λ ls. leb w (c + sizes ls)) (until_stops on_pattern size (stopped g minimum) (record { covered = c; pattern = s.pattern }) (best s ∷ ks) e)
          ∙ at_goal_lem c s (best s ∷ ks) e (greedy_fits one (more h g₁))
      go r false e =
          let x : c + ((best s).len + sizes ks) ≡ c + (best s).len + sizes ks = omega arith in
          let y : c + ((best s).len + sizes rest) ≡ c + (best s).len + sizes rest = omega arith in
          ap (λ ls. leb w (c + sizes ls)) (until_goes on_pattern size (stopped g minimum) (record { covered = c; pattern = s.pattern }) (best s) ks e)
          ∙ (ap (leb w) y ∙ (r ∙ ap (leb w) (sym x)))

-- The same of the listing.
pub listing_decides : (first second : List ℕ) (minimum w : ℕ) (g : Goal) → g.enough ≡ w → g.needed ≡ w → 1 ≤ minimum → leb w (covered (first_listed (stopped g minimum) first second minimum)) ≡ leb w (covered (listing first second minimum))
listing_decides first second minimum w g enough needed one =
    let t = first_is_pattern first second in
    let s = start (pattern_of first second) (text_of first second) in
    let laid = until on_pattern size (stopped g minimum) (unlaid (pattern_of first second)) (tiling minimum s) in
    let a : covered (first_listed (stopped g minimum) first second minimum) ≡ sizes laid = ap covered (first_listed_is (stopped g minimum) first second minimum) ∙ covered_sizes t laid in
    let b : covered (listing first second minimum) ≡ sizes (tiling minimum s) = ap covered (listing_is first second minimum) ∙ covered_sizes t (tiling minimum s) in
    let e : leb w (0 + sizes laid) ≡ leb w (0 + sizes (tiling minimum s)) = until_decides w minimum g enough needed one (tiling_greedy minimum one s) 0 in
    let x : 0 + sizes laid ≡ sizes laid = omega arith in
    let y : 0 + sizes (tiling minimum s) ≡ sizes (tiling minimum s) = omega arith in
    rw (a, b, ← x, ← y) e
