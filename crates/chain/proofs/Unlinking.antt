-- Taking words out of a chain, entry by entry, as the code goes about it.
-- Assumes nothing.
use Prim.Native.Nat.{ℕ, zero, suc, ◌+◌, ◌-◌, ◌*◌, ◌≤◌, ◌<◌}
use native.Mathlib.Omega.{arith}
use mathlib.Core.Path.{◌≡◌, refl, ◌∙◌}
use mathlib.Core.List.{List}
use borrow.Author.Tests.{lt-ltb, le-ltb}
use lib.ListN.{length, set}
use Rattle.chain.specs.Chain.{next_of, before_of, entry, Ranged}
use Rattle.chain.specs.Unlinked.{pointed_on, pointed_back, led, mended, led_out, unlinked}
use Rattle.chain.proofs.Links.{next_above, before_below, on_ranged}

-- ---- the previous word
pub on_none : (before next : ℕ) (es : List ℕ) → before ≡ 0 → es ≡ pointed_on before next es
unfolding pointed_on
on_none before next es e = rw e refl

pub on_some : (before next : ℕ) (es es' : List ℕ) (b : ℕ) → (before ≡ 0 → ⊥) → b ≡ before_of es (before - 1) → es' ≡ set es (before - 1) (entry (before - 1) b next) → es' ≡ pointed_on before next es
unfolding pointed_on
on_some zero next es es' b d e w = absurd (d refl)
on_some (suc k) next es es' b d e w = let s : suc k - 1 ≡ k = omega arith in w ∙ rw (e, s) refl

pub is_below : (es : List ℕ) (i b : ℕ) → b ≡ before_of es i → b ≤ i
is_below es i b e = omega (arith, e, before_below es i)

-- ---- the next one
pub back_none : (before next : ℕ) (es : List ℕ) → length es ≤ next → es ≡ pointed_back before next es
unfolding pointed_back
back_none before next es h = rw (pointed_back, le-ltb next (length es) h) refl

pub back_some : (before next : ℕ) (es es' : List ℕ) (n : ℕ) → next < length es → n ≡ next_of es next → es' ≡ set es next (entry next before n) → es' ≡ pointed_back before next es
unfolding pointed_back
back_some before next es es' n h e w = w ∙ rw (e, pointed_back, lt-ltb next (length es) h) refl

pub is_above : (es : List ℕ) (i n : ℕ) → n ≡ next_of es i → i < n
is_above es i n e = omega (arith, e, next_above es i)

pub is_within : (es : List ℕ) (i n : ℕ) → Ranged es → i < length es → n ≡ next_of es i → n ≤ 2048
is_within es i n r h e = omega (arith, e, r.ahead i h, r.short)

-- ---- the blocks between: block after block
pub led_none : (before next first : ℕ) (es : List ℕ) → es ≡ led before next first (first - first) es
unfolding led
led_none before next first es = let z : first - first ≡ 0 = omega arith in rw z refl

pub led_more : (before next first b : ℕ) (es es' es₀ : List ℕ) → first ≤ b → es ≡ led before next first (b - first) es₀ → es' ≡ set es (32 * (b + 1)) (entry (32 * (b + 1)) before next) → es' ≡ led before next first (b + 1 - first) es₀
unfolding led
led_more before next first b es es' es₀ h e w =
    let s : b + 1 - first ≡ suc (b - first) = omega arith in
    let k : first + suc (b - first) ≡ b + 1 = omega arith in
    w ∙ rw (s, k, e) refl

-- ---- the two beside
pub on_range : (es : List ℕ) (before next : ℕ) → Ranged es → before ≤ next → next ≤ length es → (es' : List ℕ) → es' ≡ pointed_on before next es → Ranged es'
on_range es before next r h l es' w = rw w (on_ranged next es r (omega (arith, r.short)) before (omega arith) h l)

-- ---- all of it
module _ (es : List ℕ) (at len : ℕ) (r : Ranged es) (some : 1 ≤ len) (within : at + len ≤ length es) where
  module _ (last before next : ℕ) (l : last ≡ at + len - 1) (b : before ≡ before_of es at) (n : next ≡ next_of es last) where
    pub low : before ≤ at
    low = omega (arith, b, before_below es at)

    pub high : last < next
    high = omega (arith, n, next_above es last)

    pub inside : next ≤ length es
    inside = omega (arith, n, r.ahead last (omega (arith, l)))

    pub ordered : before ≤ next
    ordered = omega (arith, low, high, l)

    pub few : next ≤ 2048
    few = omega (arith, inside, r.short)

    pub unlinked_is : (es₁ es₂ : List ℕ) → es₁ ≡ mended before next es → es₂ ≡ led_out at last before next es₁ → es₂ ≡ unlinked at len es
    unfolding unlinked
    unlinked_is es₁ es₂ w₁ w₂ = w₂ ∙ rw (w₁, b, n, l) refl
