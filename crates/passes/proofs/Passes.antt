-- Pass after pass. An index changes no word of the sequences, so nothing is laid by building one; a pass has laid every tile as long as its search
-- length; and what the passes lay follows one another. Any search length will do for a pass.
-- Assumes nothing.
use Prim.Native.Nat.{ℕ, ◌≤◌, ◌<◌, min, max}
use native.Mathlib.Decide.{dec_lt}
use native.Mathlib.Omega.{arith}
use mathlib.Core.Path.{◌≡◌, ◌∙◌}
use mathlib.Core.Bool.{false}
use mathlib.Core.List.{List}
use lib.ListN.{length, drop}
use Rattle.tiling.specs.Tiling.{best}
use Rattle.tiling.proofs.Best.{best_is}
use Rattle.bounds.specs.Workspace.{state}
use Rattle.sweep.specs.Goal.{at_goal}
use Rattle.sweep.specs.Progress.{Fits, Onward, Finished}
use Rattle.sweep.specs.declared.Totals.{Totals}
use Rattle.bounds.proofs.Workspace.{pattern_length}
use Rattle.sweep.proofs.Turn.{onward_more}
use Rattle.index.specs.declared.pass.Pass.{Pass}
use Rattle.lengths.specs.Lengths.{first_length, left, part_of}
use Rattle.lengths.proofs.Choice.{Between, first_between, left_more, left_all, Next, next_between}
use Rattle.lengths.proofs.Stretches.{run_longest}
use Rattle.passes.specs.Passing.{AtLength}

-- ---- one pass
-- ---- the later passes
pub record Resting (x : Pass) (ws₀ b₀ : List ℕ) (k₀ : Totals) (ws b : List ℕ) (k : Totals) (y : Pass) (stretch : ℕ) : Type 0 where
  pub job : y.job ≡ x.job
  pub fits : Fits y.job ws b k
  pub onward : Onward y.job ws₀ b₀ k₀ ws b k
  pub short : at_goal k ≡ false → (best (state y.job ws)).len < y.s
  pub stretched : stretch ≡ left (state y.job ws).pattern y.job.minimum y.s
  pub same_room : length ws ≡ length ws₀
  pub same_tiles : length b ≡ length b₀

module _ (x : Pass) (ws₀ b₀ : List ℕ) (k₀ : Totals) (ws b : List ℕ) (k : Totals) (y : Pass) (r : ℕ) (i : Resting x ws₀ b₀ k₀ ws b k y r) where
  module _ (more : y.job.minimum ≤ r) (s : ℕ) (e : s ≡ max y.job.minimum (min (part_of y.s k.covered y.job.n) r)) where
    -- The search length falls.
    next : Next y.job.minimum y.s s
    next =
        next_between y.job.minimum y.s k.covered y.job.n r s e
        (left_more (state y.job ws).pattern y.job.minimum y.s r i.stretched (omega (arith, i.fits.least)))

    pub resting_some : 1 ≤ s
    resting_some = omega (arith, i.fits.least, next.least)

    pub resting_most : s ≤ 2048
    resting_most = omega (arith, y.most, next.less)

    pub resting_enough : y.job.minimum ≤ s
    resting_enough = next.least

    module _ (z : Pass) (a : AtLength y s z) where
      pub resting_less : z.s < y.s
      resting_less = omega (arith, next.less, a.length)

      pub resting_more : (ws' b' : List ℕ) (k' : Totals) → Finished z.job z.s ws b k ws' b' k' → length ws' ≡ length ws → length b' ≡ length b → (r' : ℕ) → r' ≡ left (state z.job ws').pattern z.job.minimum z.s → Resting x ws₀ b₀ k₀ ws' b' k' z r'
      resting_more ws' b' k' f v w r' t =
          record {
            job = a.job ∙ i.job;
            fits = f.fits;
            onward = onward_more z.job ws₀ b₀ ws b ws' b' k₀ k k' (rw a.job i.onward) f.onward;
            short = f.short;
            stretched = t;
            same_room = v ∙ i.same_room;
            same_tiles = w ∙ i.same_tiles;
          }

  -- The last pass was that at the minimum, or no stretch of the pattern is as long.
  pub resting_done : r < y.job.minimum → Finished x.job x.job.minimum ws₀ b₀ k₀ ws b k
  resting_done h = rw (← i.job) (record { fits = i.fits; onward = i.onward; short = λ g. go g (dec_lt y.job.minimum y.s) })
    where
      go : at_goal k ≡ false → Dec (y.job.minimum < y.s) → (best (state y.job ws)).len < y.job.minimum
      go g (yes l) =
          let u = state y.job ws in
          omega (arith, (best_is u).long, run_longest u.pattern (best u).p (drop (best u).t u.text), left_all u.pattern y.job.minimum y.s r i.stretched l)
      go g (no l) = omega (arith, i.short g, l)

-- ---- the first pass and the later ones

module _ (x : Pass) (ws b : List ℕ) (k : Totals) (s : ℕ) (f : Fits x.job ws b k) (e : s ≡ first_length (state x.job ws).pattern x.multiplier x.job.minimum x.s) where
  between : Between x.job.minimum s
  between =
      let short : length (state x.job ws).pattern ≤ 2048 = omega (arith, pattern_length x.job ws f.space, f.space.short_pattern) in
      first_between (state x.job ws).pattern x.multiplier x.job.minimum x.s s short x.enough x.most e

  pub first_some : 1 ≤ s
  first_some = omega (arith, f.least, between.least)

  pub first_most : s ≤ 2048
  first_most = between.most

  pub first_enough : x.job.minimum ≤ s
  first_enough = between.least
