-- The greedy choice, over any state: what is best in a state, how long that is, and the state after laying it.
use Rattle.std.specs.Prelude.{ℕ, zero, suc, ◌≤◌, ◌<◌, true, false, ◌≡◌, List, [], ◌∷◌, ◌++◌, leb, ltb}
use Rattle.tiling.specs.Each.{Each}

-- The first of the numbers below n at which f is greatest; 0 where there are none.
unfoldable pub peak : (ℕ → ℕ) → ℕ → ℕ
peak f zero = 0
peak f (suc n) = let b = peak f n in elim (ltb (f b) (f n)) [ true ↦ n | false ↦ b ]

-- Takes the best while its length is at least the minimum, lays it and goes on, as far as the fuel goes.
-- "Among runs of at least the minimum length take the longest .. It becomes a tile .. Repeat until there is none."
module _ {S K : Type 0} (best : S → K) (size : K → ℕ) (lay : S → K → S) where
  unfoldable pub greedy : ℕ → ℕ → S → List K
  greedy zero minimum s = []
  greedy (suc fuel) minimum s =
      elim (leb minimum (size (best s)))
      [ true ↦ best s ∷ greedy fuel minimum (lay s (best s)) | false ↦ [] ]

  -- The same as a relation between a state and the whole list laid from it, without fuel: nothing of at least the minimum is left, or
  -- the best is laid and then the rest. "Repeat until there is none."
  pub data Greedy (minimum : ℕ) : S → List K → Type 0 where
    done : {s : S} → size (best s) < minimum → Greedy minimum s []
    more : {s : S} {ks : List K} → minimum ≤ size (best s) → Greedy minimum (lay s (best s)) ks → Greedy minimum s (best s ∷ ks)

-- The state after some were laid, one after another.
module _ {S K : Type 0} (lay : S → K → S) where
  unfoldable pub after : S → List K → S
  after s [] = s
  after s (k ∷ ks) = after (lay s k) ks

-- The list ks is the beginning of ls down to the last that has at least this length; what comes after it is shorter. "exactly the first
-- tiles at a smaller one, down to the last tile long enough" (02, U1).
pub record Begins {K : Type 0} (size : K → ℕ) (longer : ℕ) (ks ls : List K) : Type 0 where
  pub enough : Each (λ k. longer ≤ size k) ks
  pub rest : List K
  pub whole : ls ≡ ks ++ rest
  pub short : Each (λ k. size k < longer) rest
