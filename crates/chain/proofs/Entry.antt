-- Entries of a chain: what one says that was set, and that the others say what they did.
-- Assumes nothing.
use Prim.Native.Nat.{ℕ, ◌+◌, ◌-◌, ◌*◌, ◌/◌, ◌%◌, ◌≤◌, ◌<◌}
use native.Mathlib.Omega.{arith}
use mathlib.Core.Path.{◌≡◌, refl, ◌∙◌, ap}
use mathlib.Core.List.{List}
use lib.ListN.{length, get_or, set}
use lib.Seq.{get_or-set_same, get_or-set_other}
use Rattle.chain.specs.Chain.{gap_after, gap_before, next_of, before_of, entry}

-- What the code computes.
pub next_is : (es : List ℕ) (i : ℕ) → i + 1 + get_or es i 0 % 65536 ≡ next_of es i
unfolding next_of
next_is es i = refl

pub before_is : (es : List ℕ) (i : ℕ) → i - get_or es i 0 / 65536 ≡ before_of es i
unfolding before_of
before_is es i = refl

pub entry_is : (i before next : ℕ) → next - i - 1 + 65536 * (i - before) ≡ entry i before next
unfolding entry
entry_is i before next = refl

-- The two numbers of an entry.
low_half : (a b : ℕ) → a < 65536 → (a + 65536 * b) % 65536 ≡ a
low_half a b h = omega arith

high_half : (a b : ℕ) → a < 65536 → (a + 65536 * b) / 65536 ≡ b
high_half a b h = omega arith

-- The entry that was set.
module _ (es : List ℕ) (i before next : ℕ) (inside : i < length es) (low : before ≤ i) (high : i < next) (small : next ≤ 2048) where
  at : get_or (set es i (entry i before next)) i 0 ≡ next - i - 1 + 65536 * (i - before)
  unfolding entry
  at = get_or-set_same es i (entry i before next) 0 inside

  pub gap_set : gap_before (set es i (entry i before next)) i ≡ i - before
  gap_set = ap (λ e. e / 65536) at ∙ high_half (next - i - 1) (i - before) (omega arith)

  pub next_set : next_of (set es i (entry i before next)) i ≡ next
  unfolding next_of
  next_set =
      let e : gap_after (set es i (entry i before next)) i ≡ next - i - 1 = ap (λ e. e % 65536) at ∙ low_half (next - i - 1) (i - before) (omega arith) in
      omega (arith, e)

  pub before_set : before_of (set es i (entry i before next)) i ≡ before
  unfolding before_of
  before_set = omega (arith, gap_set)

-- The others.
module _ (es : List ℕ) (i v k : ℕ) (d : k ≡ i → ⊥) where
  pub gap_other : gap_before (set es i v) k ≡ gap_before es k
  gap_other = ap (λ e. e / 65536) (get_or-set_other es i k v 0 d)

  pub next_other : next_of (set es i v) k ≡ next_of es k
  unfolding next_of
  next_other = ap (λ e. k + 1 + e % 65536) (get_or-set_other es i k v 0 d)

  pub before_other : before_of (set es i v) k ≡ before_of es k
  unfolding before_of
  before_other = ap (λ e. k - e / 65536) (get_or-set_other es i k v 0 d)
