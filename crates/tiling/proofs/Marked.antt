-- Sequences under marking. A word that is not 0 after some marking is the word that stood there, so a pair that matches then matched
-- before: runs only shrink.
-- Assumes nothing.
use Prim.Native.Nat.{ℕ, ◌+◌, ◌≤◌}
use mathlib.Core.Path.{◌≡◌, refl, ◌∙◌}
use mathlib.Core.Bool.{true}
use mathlib.Core.List.{List}
use lib.ListN.{length, get_or, drop}
use lib.Seq.{get_or-drop}
use Rattle.symbol.specs.Word.{matches}
use Rattle.tiling.specs.Run.{mark}
use Rattle.tiling.specs.Tiling.{Tile, State, run_at, lay}
use Rattle.tiling.proofs.Run.{not_zero_left, not_zero_right, run_match, run_least, length_mark, mark_kept}

-- ys is xs with some words marked.
pub record Marked (xs ys : List ℕ) : Type 0 where
  pub same : length ys ≡ length xs
  pub kept : (j : ℕ) → (get_or ys j 0 ≡ 0 → ⊥) → get_or ys j 0 ≡ get_or xs j 0

pub marked_none : (xs : List ℕ) → Marked xs xs
marked_none xs = record { same = refl; kept = λ j h. refl }

pub marked_more : (xs ys : List ℕ) (i n : ℕ) → Marked xs ys → Marked xs (mark i n ys)
marked_more xs ys i n r =
    record {
      same = length_mark i n ys ∙ r.same;
      kept = λ j h. let e = mark_kept i n ys j h in e ∙ r.kept j (λ z. h (e ∙ z));
    }

pub record Worked (s₀ s : State) : Type 0 where
  pub of_pattern : Marked s₀.pattern s.pattern
  pub of_text : Marked s₀.text s.text

pub worked_none : (s : State) → Worked s s
worked_none s = record { of_pattern = marked_none s.pattern; of_text = marked_none s.text }

pub worked_lay : (s₀ s : State) (k : Tile) → Worked s₀ s → Worked s₀ (lay s k)
unfolding lay
worked_lay s₀ s k r =
    record {
      of_pattern = marked_more s₀.pattern s.pattern k.p k.len r.of_pattern;
      of_text = marked_more s₀.text s.text k.t k.len r.of_text;
    }

-- The words of a pair that matches are no zeros, so they stood there before any marking.
pub match_kept : (xs₀ xs ys₀ ys : List ℕ) → Marked xs₀ xs → Marked ys₀ ys → (i j : ℕ) → matches (get_or xs i 0) (get_or ys j 0) ≡ true → matches (get_or xs₀ i 0) (get_or ys₀ j 0) ≡ true
match_kept xs₀ xs ys₀ ys a b i j m = rw (← a.kept i (not_zero_left _ _ m), ← b.kept j (not_zero_right _ _ m)) m

pub runs_shrink : (s₀ s : State) → Worked s₀ s → (p t : ℕ) → run_at s p t ≤ run_at s₀ p t
runs_shrink s₀ s w p t =
    run_least (drop p s₀.pattern) (drop t s₀.text) (run_at s p t)
    (λ i h.
    rw (get_or-drop p s₀.pattern i 0, get_or-drop t s₀.text i 0)
    (match_kept s₀.pattern s.pattern s₀.text s.text w.of_pattern w.of_text (p + i) (t + i)
    (rw (← get_or-drop p s.pattern i 0, ← get_or-drop t s.text i 0)
    (run_match (drop p s.pattern) (drop t s.text) i h))))

-- After one tile more.
pub lay_shrinks : (s : State) (k : Tile) (p t : ℕ) → run_at (lay s k) p t ≤ run_at s p t
lay_shrinks s k = runs_shrink s (lay s k) (worked_lay s s k (worked_none s))
