-- The turns of a sweep and of the levels, whichever way a row is searched. Contracts of the steps go from entry to exit and follow one
-- another.
-- Assumes nothing.
use Prim.Native.Nat.{ℕ, ◌+◌, ◌-◌, ◌≤◌, ◌<◌, min}
use native.Mathlib.Decide.{dec_lt}
use native.Mathlib.Nat.{not-suc-le-zero}
use native.Mathlib.Omega.{arith}
use mathlib.Core.Path.{◌≡◌, ◌∙◌}
use mathlib.Core.Bool.{false}
use mathlib.Core.List.{List}
use lib.ListN.{length, get_or}
use Rattle.bounds.specs.Workspace.{state, bound}
use Rattle.bounds.specs.Greatest.{Greatest}
use Rattle.bounds.specs.Blocks.{block_count, Covering}
use Rattle.chain.specs.First.{First}
use Rattle.sweep.specs.Goal.{at_goal}
use Rattle.sweep.specs.Progress.{Fits, Bounded, Onward, Sweeping, Over, Ready, Finished}
use Rattle.bounds.specs.declared.Job.{Job}
use Rattle.sweep.specs.declared.Totals.{Totals}
use Rattle.tiling.specs.Tiling.{best}
use Rattle.tiling.proofs.Best.{best_is}
use Rattle.sweep.proofs.Step.{below_level}
use Rattle.bounds.proofs.Blocks.{covering_top}
use Rattle.bounds.proofs.Workspace.{pattern_length}
use Rattle.stretch.proofs.Fillable.{fillable_most}

pub onward_more : (j : Job) (ws₀ b₀ ws b ws' b' : List ℕ) (k₀ k k' : Totals) → Onward j ws₀ b₀ k₀ ws b k → Onward j ws b k ws' b' k' → Onward j ws₀ b₀ k₀ ws' b' k'
onward_more j ws₀ b₀ ws b ws' b' k₀ k k' x y = record { keeps = λ s c l. y.keeps s c (x.keeps s c l); aim = y.aim ∙ x.aim }

-- ---- where the sequences are as they were
-- ---- the goal
-- The numbers of its test are small.
pub few_covered : (j : Job) (ws b : List ℕ) (k : Totals) → Fits j ws b k → k.covered ≤ 2048
few_covered j ws b k f = omega (arith, f.free, f.space.short_pattern)

pub few_fillable : (j : Job) (ws b : List ℕ) (k : Totals) → Fits j ws b k → k.fillable ≤ 2048
few_fillable j ws b k f = omega (arith, f.left, fillable_most j.minimum (state j ws).pattern, pattern_length j ws f.space, f.space.short_pattern)

-- ---- a sweep, from one row whose bound is the level to the next
-- The rows passed over are below the level.
skip : (j : Job) (level from r : ℕ) (ws b : List ℕ) (k : Totals) → Sweeping j level from ws b k → First (λ q. bound j ws q ≡ level) from j.n r → Sweeping j level r ws b k
skip j level from r ws b k s x =
    record {
      fits = s.fits;
      bounded = record { upper = s.bounded.upper; capped = s.bounded.capped; passed = λ q h. passed q h (dec_lt q from) };
      long = s.long;
      within = x.within;
    }
  where
    passed : (q : ℕ) → q < r → Dec (q < from) → bound j ws q < level
    passed q h (yes l) = s.bounded.passed q l
    passed q h (no l) = omega (arith, s.bounded.capped q (omega (arith, x.within)), x.none q (omega (arith, l)) h)

pub record Swept (j : Job) (level : ℕ) (ws₀ b₀ : List ℕ) (k₀ : Totals) (ws b : List ℕ) (k : Totals) (bs : List ℕ) (p : ℕ) : Type 0 where
  pub sweeping : Sweeping j level p ws b k
  pub onward : Onward j ws₀ b₀ k₀ ws b k
  pub covering : Covering j ws bs
  pub full : p < j.n → bound j ws p ≡ level
  pub same_room : length ws ≡ length ws₀
  pub same_tiles : length b ≡ length b₀

module _ (j : Job) (level : ℕ) (ws₀ b₀ : List ℕ) (k₀ : Totals) (ws b : List ℕ) (k : Totals) (bs : List ℕ) (p : ℕ) (s : Swept j level ws₀ b₀ k₀ ws b k bs p) where
  pub swept_more : p < j.n → (ws' b' : List ℕ) (k' : Totals) (bs' : List ℕ) (p' : ℕ) → Sweeping j (bound j ws p) (p + 1) ws' b' k' → Onward j ws b k ws' b' k' → Covering j ws' bs' → length ws' ≡ length ws → length b' ≡ length b → First (λ q. bound j ws' q ≡ level) (p + 1) j.n p' → Swept j level ws₀ b₀ k₀ ws' b' k' bs' p'
  swept_more h ws' b' k' bs' p' w o c v u y =
      record {
        sweeping = skip j level (p + 1) p' ws' b' k' (rw (s.full h) at w) y;
        onward = onward_more j ws₀ b₀ ws b ws' b' k₀ k k' s.onward o;
        covering = c;
        full = y.stops;
        same_room = v ∙ s.same_room;
        same_tiles = u ∙ s.same_tiles;
      }

-- ---- the levels, down to runs of n words
pub record Level (j : Job) (n : ℕ) (ws₀ b₀ : List ℕ) (k₀ : Totals) (ws b : List ℕ) (k : Totals) (bs : List ℕ) (level : ℕ) : Type 0 where
  pub ready : Ready j ws b k
  pub enough : j.minimum ≤ n
  pub covering : Covering j ws bs
  pub capped : at_goal k ≡ false → (q : ℕ) → q < j.n → bound j ws q ≤ level
  pub onward : Onward j ws₀ b₀ k₀ ws b k
  pub same_room : length ws ≡ length ws₀
  pub same_tiles : length b ≡ length b₀

module _ (j : Job) (n : ℕ) (ws₀ b₀ : List ℕ) (k₀ : Totals) (ws b : List ℕ) (k : Totals) (bs : List ℕ) (level : ℕ) (l : Level j n ws₀ b₀ k₀ ws b k bs level) where
  unswept : at_goal k ≡ false → Bounded j ws level 0
  unswept going = record { upper = l.ready.upper; capped = l.capped going; passed = λ q m. absurd (not-suc-le-zero m) }

  -- After it every bound is below the level, or the goal is reached; and none exceeds the greatest of the blocks.
  pub level_more : (ws' b' : List ℕ) (k' : Totals) (bs' : List ℕ) → Over j level ws' b' k' → Covering j ws' bs' → (top next : ℕ) → Greatest (λ c. get_or bs' c 0) (block_count j) top → next ≡ min (level - 1) top → Onward j ws b k ws' b' k' → length ws' ≡ length ws → length b' ≡ length b → Level j n ws₀ b₀ k₀ ws' b' k' bs' next
  level_more ws' b' k' bs' s c top next g e o v w =
      record {
        ready = record { fits = s.fits; upper = s.upper };
        enough = l.enough;
        covering = c;
        capped = λ going q h. omega (arith, s.below going q h, covering_top j ws' bs' top c g q h, e);
        onward = onward_more j ws₀ b₀ ws b ws' b' k₀ k k' l.onward o;
        same_room = v ∙ l.same_room;
        same_tiles = w ∙ l.same_tiles;
      }

  -- Below n nothing as long is left; and at the goal there is nothing more to do.
  pub level_done : level < n → Finished j n ws₀ b₀ k₀ ws b k
  level_done h =
      let s = state j ws in
      record {
        fits = l.ready.fits;
        onward = l.onward;
        short = λ going. omega (arith, (best_is s).long, below_level j ws level 0 l.ready.fits.space (unswept going) (best s).p (best s).t);
      }
