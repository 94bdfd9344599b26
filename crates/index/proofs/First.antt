-- The first of some numbers that passes a test: it is not before the first of them, not past any that passes, and passes the test itself
-- unless it is 2,048.
-- Assumes nothing.
use Prim.Native.Nat.{ℕ, zero, suc, ◌+◌, ◌-◌, ◌≤◌, ◌<◌}
use native.Mathlib.Decide.{ℕ_discrete}
use native.Mathlib.Numerals.{add-one}
use native.Mathlib.Omega.{arith}
use mathlib.Core.Path.{◌≡◌, refl, sym, ◌∙◌, ap}
use mathlib.Core.Bool.{Bool, true, false}
use borrow.Author.Tests.{lt-ltb}
use Rattle.index.specs.Built.{first_of, some_of}

first_here : (f : ℕ → Bool) (from n : ℕ) → f from ≡ true → first_of f from (suc n) ≡ from
unfolding first_of
first_here f from n e = rw (first_of, e) refl

first_later : (f : ℕ → Bool) (from n : ℕ) → f from ≡ false → first_of f from (suc n) ≡ first_of f (suc from) n
unfolding first_of
first_later f from n e = rw (first_of, e) refl

first_none : (f : ℕ → Bool) (from : ℕ) → first_of f from 0 ≡ 2048
unfolding first_of
first_none f from = refl

pub first_least : (f : ℕ → Bool) (from n : ℕ) → from + n ≤ 2048 → from ≤ first_of f from n
first_least f from zero h = omega (arith, first_none f from)
first_least f from (suc n) h = go (first_least f (suc from) n (omega arith)) (f from) refl
  where
    go : suc from ≤ first_of f (suc from) n → (t : Bool) → f from ≡ t → from ≤ first_of f from (suc n)
    go later true e = omega (arith, first_here f from n e)
    go later false e = omega (arith, first_later f from n e)

pub first_most : (f : ℕ → Bool) (from n u : ℕ) → f u ≡ true → from ≤ u → u < from + n → first_of f from n ≤ u
first_most f from zero u e a b = absurd (omega arith)
first_most f from (suc n) u e a b = go (λ l. first_most f (suc from) n u e l (omega arith)) (f from) refl (ℕ_discrete u from)
  where
    go : (suc from ≤ u → first_of f (suc from) n ≤ u) → (t : Bool) → f from ≡ t → Dec (u ≡ from) → first_of f from (suc n) ≤ u
    go later true k d = omega (arith, first_here f from n k)
    go later false k (yes d) = let z : true ≡ false = sym e ∙ (ap f d ∙ k) in absurd (let o : ◌≡◌ {A = ℕ} 0 1 = cc in omega arith)
    go later false k (no d) = omega (arith, first_later f from n k, later (omega (arith, d)))

pub first_passes : (f : ℕ → Bool) (from n : ℕ) → first_of f from n < 2048 → f (first_of f from n) ≡ true
first_passes f from zero h = absurd (omega (arith, first_none f from))
first_passes f from (suc n) h = go (first_passes f (suc from) n) (f from) refl
  where
    go : (first_of f (suc from) n < 2048 → f (first_of f (suc from) n) ≡ true) → (t : Bool) → f from ≡ t → f (first_of f from (suc n)) ≡ true
    go later true e = rw (first_here f from n e) e
    go later false e = rw (first_later f from n e) (later (omega (arith, first_later f from n e)))

pub first_same : (f g : ℕ → Bool) (from n : ℕ) → ((i : ℕ) → from ≤ i → i < from + n → f i ≡ g i) → first_of f from n ≡ first_of g from n
first_same f g from zero same = first_none f from ∙ sym (first_none g from)
first_same f g from (suc n) same = go (first_same f g (suc from) n (λ i a b. same i (omega arith) (omega arith))) (f from) refl
  where
    go : first_of f (suc from) n ≡ first_of g (suc from) n → (t : Bool) → f from ≡ t → first_of f from (suc n) ≡ first_of g from (suc n)
    go later true e = first_here f from n e ∙ sym (first_here g from n (sym (same from (omega arith) (omega arith)) ∙ e))
    go later false e = first_later f from n e ∙ (later ∙ sym (first_later g from n (sym (same from (omega arith) (omega arith)) ∙ e)))

-- ---- up to m
module _ (f : ℕ → Bool) (t m : ℕ) (inside : t < m) where
  count : m - t ≡ suc (m - (t + 1))
  count = omega arith

  pub next_here : f t ≡ true → first_of f t (m - t) ≡ t
  next_here e = rw count (first_here f t (m - (t + 1)) e)

  pub next_later : f t ≡ false → first_of f t (m - t) ≡ first_of f (t + 1) (m - (t + 1))
  next_later e = rw (count, add-one t) (first_later f t (m - suc t) e)

pub next_none : (f : ℕ → Bool) (m : ℕ) → first_of f m (m - m) ≡ 2048
next_none f m = let e : m - m ≡ 0 = omega arith in rw e (first_none f m)

-- ---- whether one passes
pub some_none : (f : ℕ → Bool) (m : ℕ) → some_of f m (m - m) ≡ false
some_none f m = rw (next_none f m) refl

module _ (f : ℕ → Bool) (t m : ℕ) (inside : t < m) where
  pub some_here : m ≤ 2048 → f t ≡ true → some_of f t (m - t) ≡ true
  some_here h e = rw (next_here f t m inside e) (lt-ltb t 2048 (omega arith))

  pub some_later : f t ≡ false → some_of f t (m - t) ≡ some_of f (t + 1) (m - (t + 1))
  some_later e = rw (next_later f t m inside e) refl

pub some_most : (f : ℕ → Bool) (m u : ℕ) → m ≤ 2048 → f u ≡ true → u < m → some_of f 0 (m - 0) ≡ true
some_most f m u h e l = lt-ltb (first_of f 0 (m - 0)) 2048 (omega (arith, first_most f 0 (m - 0) u e (omega arith) (omega arith)))

pub some_same : (f g : ℕ → Bool) (from n : ℕ) → ((i : ℕ) → from ≤ i → i < from + n → f i ≡ g i) → some_of f from n ≡ some_of g from n
some_same f g from n same = rw (first_same f g from n same) refl

-- ---- numbers that do not pass may be left out
module _ (f : ℕ → Bool) (m : ℕ) where
  skip : (d a : ℕ) → a + d ≤ m → ((i : ℕ) → a ≤ i → i < a + d → f i ≡ false) → first_of f a (m - a) ≡ first_of f (a + d) (m - (a + d))
  skip zero a h none = let e : a + 0 ≡ a = omega arith in rw e refl
  skip (suc d) a h none =
      let e : a + suc d ≡ a + 1 + d = omega arith in
      rw e
      (next_later f a m (omega arith) (none a (omega arith) (omega arith))
      ∙ skip d (a + 1) (omega arith) (λ i k l. none i (omega arith) (omega arith)))

  module _ (a b : ℕ) (low : a ≤ b) (high : b ≤ m) (none : (i : ℕ) → a ≤ i → i < b → f i ≡ false) where
    pub next_skip : first_of f a (m - a) ≡ first_of f b (m - b)
    next_skip =
        let e : a + (b - a) ≡ b = omega arith in
        rw e at (skip (b - a) a (omega arith) (λ i k l. none i k (omega arith)))

    pub some_skip : some_of f a (m - a) ≡ some_of f b (m - b)
    some_skip = rw next_skip refl
