-- Pairs that pass a test one after another, no more than the best so far: they end with either list, and where two words do not pass.
-- Assumes nothing.
use Prim.Native.Nat.{ℕ, ◌+◌, ◌-◌, ◌≤◌, ◌<◌, max}
use native.Mathlib.Decide.{dec_lt, dec_le}
use native.Mathlib.Omega.{arith}
use mathlib.Core.Path.{◌≡◌, refl, sym, ◌∙◌}
use mathlib.Core.Bool.{Bool, true, false, not, ◌&&◌}
use mathlib.Core.List.{List}
use borrow.Author.Tests.{not-true, lt-ltb, le-ltb, le-leb, lt-leb}
use lib.Dec.{leb, ltb}
use lib.ListN.{length, get_or}
use Rattle.tiling.specs.Run.{leading}
use Rattle.tiling.proofs.Leading.{leading_within, leading_most}
use Rattle.measure.specs.Block.{block, whole_blocks, counted}

module _ (test : ℕ → ℕ → Bool) (ps ts : List ℕ) (best : ℕ) where
  pub longer_pattern : length ps ≤ best → best ≡ max best (leading test ps ts)
  longer_pattern h = omega (arith, leading_within test ps ts)

  pub longer_text : length ts ≤ best → best ≡ max best (leading test ps ts)
  longer_text h = omega (arith, leading_within test ps ts)

  pub longer_stop : (r : Bool) → r ≡ test (get_or ps best 0) (get_or ts best 0) → not r ≡ true → best ≡ max best (leading test ps ts)
  longer_stop r e f = omega (arith, leading_most test ps ts best (sym e ∙ not-true r f))

-- ---- a run that counts as none
module _ (best n : ℕ) where
  -- Whether it counts as none, as the code asks of the whole blocks.
  asked : (w : ℕ) → w ≡ whole_blocks n → (ltb w block && leb (block - 1) best) ≡ (ltb n block && leb block (best + 1))
  asked w e = go (dec_lt n block) (dec_le block (best + 1))
    where
      go : Dec (n < block) → Dec (block ≤ best + 1) → (ltb w block && leb (block - 1) best) ≡ (ltb n block && leb block (best + 1))
      go (yes h) (yes k) =
          rw (lt-ltb n block h, le-leb block (best + 1) k, lt-ltb w block (omega (arith, e)), le-leb (block - 1) best (omega arith)) refl
      go (yes h) (no k) =
          rw (lt-ltb n block h, lt-leb block (best + 1) (omega (arith, k)), lt-ltb w block (omega (arith, e)), lt-leb (block - 1) best (omega (arith, k))) refl
      go (no h) d = rw (le-ltb n block (omega (arith, h)), le-ltb w block (omega (arith, e, h))) refl

  pub counted_none : (w : ℕ) → w ≡ whole_blocks n → (ltb w block && leb (block - 1) best) ≡ true → 0 ≡ counted best n
  unfolding counted
  counted_none w e h = rw (counted, ← asked w e, h) refl

  pub counted_all : (w r : ℕ) → w ≡ whole_blocks n → (ltb w block && leb (block - 1) best) ≡ false → r ≡ n → r ≡ counted best n
  unfolding counted
  counted_all w r e h k = rw (counted, ← asked w e, h) k

  -- One that is counted as none is not longer than best.
  pub counted_longer : max best (counted best n) ≡ max best n
  unfolding counted
  counted_longer = go (dec_lt n block) (dec_le block (best + 1))
    where
      go : Dec (n < block) → Dec (block ≤ best + 1) → max best (counted best n) ≡ max best n
      go (yes h) (yes k) = let z : counted best n ≡ 0 = rw (counted, lt-ltb n block h, le-leb block (best + 1) k) refl in rw z (omega arith)
      go (yes h) (no k) = let z : counted best n ≡ n = rw (counted, lt-ltb n block h, lt-leb block (best + 1) (omega (arith, k))) refl in rw z refl
      go (no h) d = let z : counted best n ≡ n = rw (counted, le-ltb n block (omega (arith, h))) refl in rw z refl

  pub counted_most : counted best n ≤ n
  unfolding counted
  counted_most = go (ltb n block && leb block (best + 1))
    where
      go : (b : Bool) → elim b [ true ↦ 0 | false ↦ n ] ≤ n
      go true = omega arith
      go false = omega arith

  pub counted_some : 0 < counted best n → counted best n ≡ n
  unfolding counted
  counted_some = go (ltb n block && leb block (best + 1))
    where
      go : (b : Bool) → 0 < elim b [ true ↦ 0 | false ↦ n ] → elim b [ true ↦ 0 | false ↦ n ] ≡ n
      go true h = absurd (omega arith)
      go false h = refl

  pub longer_run_lem : (m r : ℕ) → m ≡ counted best n → r ≡ max m best → r ≡ max best n
  longer_run_lem m r e k = omega (arith, counted_longer)
