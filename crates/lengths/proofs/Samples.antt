-- Some windows, marked by their places from the last to the first and then counted.
-- Assumes nothing.
use Prim.Native.Nat.{ℕ, zero, suc, ◌+◌, ◌-◌, ◌*◌, ◌/◌, ◌≤◌, ◌<◌, min, max}
use native.Mathlib.Decide.{dec_lt, ℕ_discrete}
use native.Mathlib.Numerals.{add-one}
use native.Mathlib.Omega.{arith}
use mathlib.Core.Path.{◌≡◌, refl, sym, ◌∙◌, ap}
use mathlib.Core.Bool.{Bool, true, false, not}
use mathlib.Core.List.{List}
use borrow.Author.Tests.{lt-ltb, le-ltb, eq-eqb, ne_eqb}
use lib.Dec.{eqb}
use lib.ListN.{length, take, drop, get_or, set, replicate, get_or-replicate}
use lib.Seq.{take_all, get_or-set_other, get_or-set_same}
use Rattle.std.specs.List.{count_by}
use Rattle.std.proofs.lemmas.List.Sums.{count_by_more_no, count_by_more_yes}
use Rattle.tiling.specs.Tally.{one}
use Rattle.window.specs.Hash.{words_hash}
use Rattle.index.proofs.First.{some_none, some_here, some_later}
use Rattle.index.specs.Indexed.{place}
use Rattle.lengths.specs.Lengths.{taken, samples, some_taken, count_below, Marked, marks, different}

-- ---- marking
pub record Marking (ws : List ℕ) (b s step : ℕ) (marked : List ℕ) (i : ℕ) : Type 0 where
  pub some : 1 ≤ step
  pub long : 1 ≤ s
  pub fits : s ≤ length ws
  pub within : i ≤ samples ws s step
  pub entries : (k : ℕ) → k < 1024 → get_or marked k 0 ≡ one (some_taken ws b s step k i)

pub marking_none : (ws : List ℕ) (b s step : ℕ) (marked : List ℕ) → 1 ≤ step → 1 ≤ s → s ≤ length ws → marked ≡ replicate 1024 0 → (r : ℕ) → r ≡ min ((length ws - s) / step) 63 → Marking ws b s step marked (r + 1)
marking_none ws b s step marked h o f e r er =
    record {
      some = h;
      long = o;
      fits = f;
      within = omega (arith, er);
      entries = λ k m. rw (er, some_none (taken ws b s step k) (samples ws s step), e) (get_or-replicate {A = ℕ} 1024 k 0 0 m);
    }

module _ (ws : List ℕ) (b s step : ℕ) (marked : List ℕ) (i : ℕ) (m : Marking ws b s step marked i) (above : 0 < i) where
  back : i - 1 + 1 ≡ i
  back = omega arith

  small : samples ws s step ≤ 2048
  small = omega arith

  pub marking_more : (at h k : ℕ) → at ≡ (i - 1) * step → h ≡ words_hash b (take (at + s - at) (drop at ws)) → k ≡ place h → k < length marked → Marking ws b s step (set marked k 1) (i - 1)
  marking_more at h k ea eh ek inside =
      record { some = m.some; long = m.long; fits = m.fits; within = omega (arith, m.within); entries = λ c l. entries c l (ℕ_discrete c k) }
    where
      count : ℕ
      count = samples ws s step

      there : place (words_hash b (take s (drop ((i - 1) * step) ws))) ≡ k
      there = let z : at + s - at ≡ s = omega arith in sym (ek ∙ ap place (eh ∙ rw (z, ea) refl))

      entries : (c : ℕ) → c < 1024 → Dec (c ≡ k) → get_or (set marked k 1) c 0 ≡ one (some_taken ws b s step c (i - 1))
      entries c l (yes e) = rw (e, some_here (taken ws b s step k) (i - 1) count (omega (arith, m.within)) small (eq-eqb _ k there)) (get_or-set_same marked k 1 0 inside)
      entries c l (no d) =
          rw (some_later (taken ws b s step c) (i - 1) count (omega (arith, m.within)) (ne_eqb _ c (λ z. d (sym z ∙ there))), back)
          (get_or-set_other marked k c 1 0 d ∙ m.entries c l)

-- ---- counting
count_same : (f g : ℕ → Bool) (n : ℕ) → ((k : ℕ) → k < n → f k ≡ g k) → count_below f n ≡ count_below g n
unfolding count_below
count_same f g zero h = refl
count_same f g (suc n) h = rw (count_same f g n (λ k l. h k (omega arith)), h n (omega arith)) refl

counts : (f : ℕ → Bool) (xs : List ℕ) (n : ℕ) → n ≤ length xs → count_by f (take n xs) ≡ count_below (λ k. f (get_or xs k 0)) n
unfolding count_below
counts f xs zero h = refl
counts f xs (suc n) h = rw (← add-one n) (go (f (get_or xs n 0)) refl (counts f xs n (omega arith)))
  where
    go : (b : Bool) → f (get_or xs n 0) ≡ b → count_by f (take n xs) ≡ count_below (λ k. f (get_or xs k 0)) n → count_by f (take (n + 1) xs) ≡ count_below (λ k. f (get_or xs k 0)) n + one (f (get_or xs n 0))
    go true e before = rw e (count_by_more_yes f xs n 0 (omega arith) e ∙ ap (λ m. m + 1) before)
    go false e before = rw e (count_by_more_no f xs n 0 (omega arith) e ∙ (before ∙ omega arith))

pub counted : (marked : List ℕ) (r : ℕ) → length marked ≡ 1024 → r ≡ count_by (λ w. not (eqb w 0)) marked → r ≡ marks marked 1024
counted marked r n e =
    let most : length marked ≤ 1024 = omega arith in
    e ∙ (rw (take_all 1024 marked most) at (counts (λ w. not (eqb w 0)) marked 1024 (omega arith)))

bit_some : (b : Bool) → not (eqb (one b) 0) ≡ b
bit_some true = refl
bit_some false = refl

-- ---- all of it
pub different_none : (ws : List ℕ) (b s : ℕ) → length ws < s → 0 ≡ different ws b s
unfolding different
different_none ws b s h = rw (different, lt-ltb (length ws) s h) refl

pub different_counted : (ws : List ℕ) (b s step : ℕ) (marked : List ℕ) (r : ℕ) → s ≤ length ws → step ≡ max ((length ws - s) / 64) 1 → Marked ws b s step marked → r ≡ marks marked 1024 → r ≡ different ws b s
unfolding different
different_counted ws b s step marked r h er m e =
    let es : step ≡ max 1 ((length ws - s) / 64) = omega (arith, er) in
    e
    ∙ (count_same (λ k. not (eqb (get_or marked k 0) 0)) (λ k. some_taken ws b s step k 0) 1024 (λ k l. rw (m.entries k l) (bit_some (some_taken ws b s step k 0)))
    ∙ rw (different, le-ltb (length ws) s h, es) refl)

-- Where some differ, one fits.
pub different_fits : (ws : List ℕ) (b s : ℕ) → 1 ≤ different ws b s → s ≤ length ws
unfolding different
different_fits ws b s h = go (dec_lt (length ws) s)
  where
    go : Dec (length ws < s) → s ≤ length ws
    go (yes l) = absurd (omega (arith, different_none ws b s l))
    go (no l) = omega (arith, l)
