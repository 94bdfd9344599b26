-- A list in which several stretches were marked, one after another. A word of it is 0 where one of them covers it, and elsewhere
-- it is the word that stood there. So a stretch of words that are not 0 lies apart from a stretch that was marked.
-- Assumes nothing.
use Prim.Native.Nat.{ℕ, ◌+◌, ◌-◌, ◌≤◌, ◌<◌}
use native.Mathlib.Decide.{dec_le}
use native.Mathlib.Omega.{arith}
use mathlib.Core.Path.{◌≡◌, refl, ◌∙◌}
use mathlib.Core.List.{List, [], ◌∷◌}
use lib.ListN.{get_or}
use Rattle.tiling.specs.Each.{none, also}
use Rattle.tiling.specs.Run.{mark}
use Rattle.tiling.specs.Greedy.{after}
use Rattle.tiling.specs.Demand.{Covers, Free, Left}
use Rattle.tiling.proofs.Run.{mark_inside, mark_outside}

-- A stretch without zeros in a list in which another was marked.
pub marked_apart : (i n k m : ℕ) (xs : List ℕ) → ((x : ℕ) → x < m → get_or (mark i n xs) (k + x) 0 ≡ 0 → ⊥) → (j : ℕ) → Covers i n j → Covers k m j → ⊥
marked_apart i n k m xs h j a b =
    let e : k + (j - k) ≡ j = omega (arith, b) in
    h (j - k) (omega (arith, b)) (rw e (mark_inside i n xs j a.least a.most))

module _ {K : Type 0} (start len : K → ℕ) where
  -- The list with the words of one more marked.
  abbrev pub marking : List ℕ → K → List ℕ
  marking xs k = mark (start k) (len k) xs

  free_kept : (ks : List K) (xs : List ℕ) (j : ℕ) → Free start len ks j → get_or (after marking xs ks) j 0 ≡ get_or xs j 0
  unfolding after
  free_kept [] xs j f = refl
  free_kept (k ∷ ks) xs j (also d f) = free_kept ks (marking xs k) j f ∙ mark_outside (start k) (len k) xs j d

  left_free : (ks : List K) (xs : List ℕ) (j : ℕ) → (get_or (after marking xs ks) j 0 ≡ 0 → ⊥) → Free start len ks j
  unfolding after
  left_free [] xs j h = none
  left_free (k ∷ ks) xs j h =
      let f = left_free ks (marking xs k) j h in
      also (λ c. h (free_kept ks (marking xs k) j f ∙ mark_inside (start k) (len k) xs j c.least c.most)) f

  pub all_left : (ks : List K) (xs : List ℕ) (j : ℕ) → Left start len ks xs (after marking xs ks) j
  all_left ks xs j = record { kept = free_kept ks xs j; zero = λ d. go (dec_le (get_or (after marking xs ks) j 0) 0) d }
    where
      go : Dec (get_or (after marking xs ks) j 0 ≤ 0) → (Free start len ks j → ⊥) → get_or (after marking xs ks) j 0 ≡ 0
      go (yes h) d = omega (arith, h)
      go (no h) d = absurd (d (left_free ks xs j (λ e. h (omega (arith, e)))))
