-- Stretches of calls, from the last word to the first. No run is longer than the stretch that it begins in: words that match are calls.
-- Assumes nothing.
use Prim.Native.Nat.{ℕ, zero, suc, ◌+◌, ◌-◌, ◌≤◌, ◌<◌, max}
use native.Mathlib.Decide.{dec_lt, ℕ_discrete}
use native.Mathlib.Omega.{arith}
use mathlib.Core.Path.{◌≡◌, refl, sym, ◌∙◌, ap, subst}
use mathlib.Core.Bool.{Bool, true, false}
use mathlib.Core.List.{List, [], ◌∷◌}
use lib.ListN.{length, take, drop, get_or, length-drop}
use lib.Seq.{drop-cons, drop-length}
use Rattle.symbol.specs.Word.{is_call, matches}
use Rattle.symbol.proofs.Retired.{no_match_left}
use Rattle.tiling.specs.Run.{run}
use Rattle.tiling.proofs.Leading.{leading_cons, leading_none}
use Rattle.tiling.proofs.Run.{run_within}
use Rattle.tiling.proofs.Tiling.{zero_no_call}
use Rattle.chain.specs.Chain.{Free}
use Rattle.chain.specs.Stretches.{StretchBefore}
use Rattle.bounds.specs.Workspace.{Space, state}
use Rattle.bounds.specs.declared.Job.{Job}
use Rattle.bounds.proofs.Workspace.{pattern_length}
use Rattle.lengths.specs.Lengths.{longer, stretch, longest}

-- ---- one word

-- ---- all of them
stretch_within : (ws : List ℕ) → stretch ws ≤ length ws
unfolding stretch
stretch_within [] = omega arith
stretch_within (w ∷ ws) = go (is_call w) (stretch_within ws)
  where
    go : (b : Bool) → stretch ws ≤ length ws → longer b (stretch ws) ≤ suc (length ws)
    go true h = omega (arith, h)
    go false h = omega (arith, h)

pub record Stretching (words : List ℕ) (from i free most : ℕ) : Type 0 where
  pub least : from ≤ i
  pub within : i ≤ length words
  pub here : free ≡ stretch (drop i words)
  pub after : most ≡ longest (drop i words)

pub stretching_none : (words : List ℕ) (from to after : ℕ) → from ≤ to → to ≤ length words → stretch (drop to words) ≡ 0 → after ≡ longest (drop to words) → Stretching words from to 0 after
stretching_none words from to after h l z e = record { least = h; within = l; here = sym z; after = e }

module _ (words : List ℕ) (from i free most : ℕ) (x : Stretching words from i free most) where
  pub stretching_fits : length words ≤ 2048 → free < 4096
  stretching_fits h = omega (arith, x.here, stretch_within (drop i words), length-drop i words)

  pub stretching_more : from < i → (free' most' : ℕ) → free' ≡ longer (is_call (get_or words (i - 1) 0)) free → most' ≡ max most free' → Stretching words from (i - 1) free' most'
  unfolding stretch longest
  stretching_more above free' most' e m = record { least = omega arith; within = omega (arith, x.within); here = here; after = m ∙ rw (first, x.after, here, first) refl }
    where
      back : suc (i - 1) ≡ i
      back = omega arith

      first : drop (i - 1) words ≡ get_or words (i - 1) 0 ∷ drop i words
      first = rw back at (drop-cons words (i - 1) 0 (omega (arith, x.within)))

      here : free' ≡ stretch (drop (i - 1) words)
      here = e ∙ rw (first, x.here) refl

  pub stretching_all : i ≤ from → most ≡ longest (drop from words)
  stretching_all h = let z : i ≡ from = omega (arith, x.least) in rw z at x.after

-- ---- stretch by stretch: words that are covered are no calls
covered_first : (xs : List ℕ) (k : ℕ) → k < length xs → get_or xs k 0 ≡ 0 → stretch (drop k xs) ≡ 0
unfolding stretch
covered_first xs k h z = rw (drop-cons xs k 0 h, z, zero_no_call) refl

covered_longest : (xs : List ℕ) (k : ℕ) → k < length xs → get_or xs k 0 ≡ 0 → longest (drop k xs) ≡ longest (drop (suc k) xs)
unfolding longest stretch
covered_longest xs k h z = rw (drop-cons xs k 0 h, z, zero_no_call) (omega arith)

covered_part : (xs : List ℕ) (k n : ℕ) → k + n ≤ length xs → ((i : ℕ) → k ≤ i → i < k + n → get_or xs i 0 ≡ 0) → longest (drop k xs) ≡ longest (drop (k + n) xs)
covered_part xs k zero h z = let e : k + 0 ≡ k = omega arith in rw e refl
covered_part xs k (suc n) h z =
    let e : k + suc n ≡ suc (k + n) = omega arith in
    covered_part xs k n (omega arith) (λ i a b. z i a (omega arith))
    ∙ (covered_longest xs (k + n) (omega arith) (z (k + n) (omega arith) (omega arith)) ∙ ap (λ i. longest (drop i xs)) (sym e))

pub record Longest (xs : List ℕ) (most from to : ℕ) : Type 0 where
  pub end : ℕ
  pub inside : end ≤ length xs
  pub here : most ≡ longest (drop end xs)
  pub edge : end < length xs → 0 < end → Free xs (end - 1) → ⊥
  pub last : StretchBefore xs end from to

pub longest_none : (xs : List ℕ) (end from to : ℕ) → end ≡ length xs → StretchBefore xs end from to → Longest xs 0 from to
unfolding longest
longest_none xs end from to e r =
    record { end = end; inside = omega arith; here = rw (e, drop-length xs) refl; edge = λ l. absurd (omega arith); last = r }

module _ (xs : List ℕ) (most from to : ℕ) (x : Longest xs most from to) where
  covered : (i : ℕ) → to ≤ i → i < x.end → get_or xs i 0 ≡ 0
  covered i h l = go (ℕ_discrete (get_or xs i 0) 0)
    where
      go : Dec (get_or xs i 0 ≡ 0) → get_or xs i 0 ≡ 0
      go (yes z) = z
      go (no d) = absurd (x.last.past i h l d)

  pub longest_here : most ≡ longest (drop to xs)
  longest_here =
      let e : to + (x.end - to) ≡ x.end = omega (arith, x.last.within) in
      x.here
      ∙ (ap (λ i. longest (drop i xs)) (sym e)
      ∙ sym (covered_part xs to (x.end - to) (omega (arith, x.last.within, x.inside)) (λ i a b. covered i a (omega (arith, x.last.within)))))

  pub longest_edge : 0 < to → stretch (drop to xs) ≡ 0
  unfolding stretch
  longest_edge z = go (dec_lt to x.end) (dec_lt to (length xs))
    where
      go : Dec (to < x.end) → Dec (to < length xs) → stretch (drop to xs) ≡ 0
      go (yes h) d = covered_first xs to (omega (arith, h, x.inside)) (covered to (omega arith) h)
      go (no h) (yes l) =
          let same : to ≡ x.end = omega (arith, h, x.last.within) in
          absurd (x.edge (omega arith) (omega arith) (subst (λ k. Free xs (k - 1)) same (x.last.free (to - 1) (omega (arith, x.last.some z)) (omega arith))))
      go (no h) (no l) =
          let all : to ≡ length xs = omega (arith, l, x.last.within, x.inside) in
          rw (all, drop-length xs) refl

  pub longest_inside : to ≤ length xs
  longest_inside = omega (arith, x.last.within, x.inside)

  pub longest_all : to ≤ 0 → most ≡ longest xs
  longest_all z = let e : to ≡ 0 = omega arith in longest_here ∙ rw e refl

-- The pattern as a part of the workspace.
module _ (j : Job) (ws : List ℕ) (space : Space j ws) where
  front : take (j.n - 0) (drop 0 ws) ≡ (state j ws).pattern
  front = let e : j.n - 0 ≡ j.n = omega arith in rw e refl

  module _ (most from to : ℕ) (x : Longest (state j ws).pattern most from to) where
    pub part_short : length (take (j.n - 0) (drop 0 ws)) ≤ 2048
    part_short = rw front (omega (arith, pattern_length j ws space, space.short_pattern))

    pub part_inside : to ≤ length (take (j.n - 0) (drop 0 ws))
    part_inside = rw front (longest_inside (state j ws).pattern most from to x)

    pub part_edge : 0 < to → stretch (drop to (take (j.n - 0) (drop 0 ws))) ≡ 0
    part_edge z = rw front (longest_edge (state j ws).pattern most from to x z)

    pub part_here : most ≡ longest (drop to (take (j.n - 0) (drop 0 ws)))
    part_here = rw front (longest_here (state j ws).pattern most from to x)

    pub part_ordered : from ≤ to
    part_ordered = x.last.ordered

  pub part_none : (end from to : ℕ) → end ≡ j.n → StretchBefore (state j ws).pattern end from to → Longest (state j ws).pattern 0 from to
  part_none end from to e r = longest_none (state j ws).pattern end from to (e ∙ sym (pattern_length j ws space)) r

-- ---- runs
run_stretch : (ws others : List ℕ) → run ws others ≤ stretch ws
unfolding stretch
run_stretch [] others = omega (arith, run_within [] others)
run_stretch (w ∷ ws) [] = omega (arith, run_within (w ∷ ws) [])
run_stretch (w ∷ ws) (o ∷ os) = go (is_call w) refl (run_stretch ws os) (matches w o) refl
  where
    go : (b : Bool) → is_call w ≡ b → run ws os ≤ stretch ws → (m : Bool) → matches w o ≡ m → run (w ∷ ws) (o ∷ os) ≤ longer b (stretch ws)
    go true e h true k = omega (arith, leading_cons matches w o ws os k, h)
    go true e h false k = omega (arith, leading_none matches w o ws os k)
    go false e h m k = omega (arith, leading_none matches w o ws os (no_match_left w o e))

-- No run of some words is longer than their longest stretch.
pub run_longest : (ws : List ℕ) (p : ℕ) (others : List ℕ) → run (drop p ws) others ≤ longest ws
unfolding longest
run_longest [] zero others = omega (arith, run_within [] others)
run_longest [] (suc p) others = omega (arith, run_within [] others)
run_longest (w ∷ ws) zero others = omega (arith, run_stretch (w ∷ ws) others)
run_longest (w ∷ ws) (suc p) others = omega (arith, run_longest ws p others)
