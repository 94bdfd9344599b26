-- A sequence tiled with itself: each tile starts at the same position of the pattern and of the text. A run at (p, t) is no longer than the
-- run at (p, p), nor than that at (t, t), and the first of them that is longest comes first of all; laying it marks the same
-- words on both sides, so pattern and text stay equal.
-- Assumes nothing.
use Prim.Native.Nat.{ℕ, ◌≤◌, ◌<◌}
use native.Mathlib.Decide.{dec_lt}
use native.Mathlib.Omega.{arith}
use mathlib.Core.Path.{◌≡◌, refl}
use mathlib.Core.List.{List}
use lib.ListN.{drop}
use Rattle.symbol.proofs.Retired.{match_call, match_self, match_swap}
use Rattle.tiling.specs.Each.{Each}
use Rattle.tiling.specs.Run.{run}
use Rattle.tiling.specs.Tiling.{Tile, State, run_at, best, size, lay, tiling_by, tiling, start}
use Rattle.tiling.proofs.Run.{run_match, run_least}
use Rattle.tiling.proofs.Greedy.{greedy_each}
use Rattle.tiling.proofs.Best.{best_is}

-- ---- the run of a list with itself
-- Each word of a run is a call, which matches itself.
run_left : (ps ts : List ℕ) → run ps ts ≤ run ps ps
run_left ps ts = run_least ps ps (run ps ts) (λ i h. match_self _ (match_call _ _ (run_match ps ts i h)))

run_right : (ps ts : List ℕ) → run ps ts ≤ run ts ts
run_right ps ts = run_least ts ts (run ps ts) (λ i h. match_self _ (match_call _ _ (match_swap _ _ (run_match ps ts i h))))

-- ---- pattern and text are equal
abbrev Itself : State → Type 0
Itself s = s.pattern ≡ s.text

abbrev EqualPlaces : Tile → Type 0
EqualPlaces k = k.p ≡ k.t

module _ (s : State) (e : Itself s) where
  at_pattern : (p t : ℕ) → run_at s p t ≤ run_at s p p
  at_pattern p t = rw (← e) (run_left (drop p s.pattern) (drop t s.pattern))

  at_text : (p t : ℕ) → run_at s p t ≤ run_at s t t
  at_text p t = rw (← e) (run_right (drop p s.pattern) (drop t s.pattern))

  best_itself : EqualPlaces (best s)
  best_itself = go (dec_lt (best s).p (best s).t) (dec_lt (best s).t (best s).p)
    where
      go : Dec ((best s).p < (best s).t) → Dec ((best s).t < (best s).p) → EqualPlaces (best s)
      go (yes h) k = absurd (omega (arith, (best_is s).before (best s).p h, (best_is s).long, at_pattern (best s).p (best s).t))
      go (no h) (yes k) = absurd (omega (arith, (best_is s).above (best s).t (best s).t k, (best_is s).long, at_text (best s).p (best s).t))
      go (no h) (no k) = omega (arith, h, k)

lay_itself : (s : State) (k : Tile) → Itself s → EqualPlaces k → Itself (lay s k)
unfolding lay
lay_itself s k e h = rw (e, h) refl

pub tiling_itself : (minimum : ℕ) (s : List ℕ) → Each EqualPlaces (tiling minimum (start s s))
unfolding tiling_by
tiling_itself minimum s =
    greedy_each best size lay Itself EqualPlaces best_itself (λ u e. lay_itself u (best u) e (best_itself u e)) _ minimum (start s s) refl
