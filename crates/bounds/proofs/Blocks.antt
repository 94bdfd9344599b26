-- Blocks of rows. What stands for a block is never below the bound of one of its rows: bounds only fall, and where it is set anew it is the
-- greatest of them. So rows of a block that stands below a level are below it.
-- Assumes nothing.
use Prim.Native.Nat.{ℕ, ◌+◌, ◌-◌, ◌*◌, ◌/◌, ◌≤◌, ◌<◌, min, max}
use native.Mathlib.Decide.{dec_lt, ℕ_discrete}
use native.Mathlib.Omega.{arith}
use mathlib.Core.Path.{◌≡◌, refl, sym, ◌∙◌}
use mathlib.Core.Bool.{Bool, true, false}
use mathlib.Core.List.{List}
use lib.ListN.{length, get_or}
use lib.Seq.{get_or-take}
use Rattle.chain.specs.First.{Passing}
use Rattle.chain.specs.Chain.{Free, next_of}
use Rattle.chain.proofs.First.{passing_to, passing_one}
use Rattle.chain.proofs.Links.{next_above}
use Rattle.bounds.specs.Workspace.{Space, state, bound, pattern_chain}
use Rattle.bounds.specs.Greatest.{Greatest}
use Rattle.bounds.specs.Blocks.{block_count, Tops, Refreshed, in_level, Renewed, Covering, Falling}
use Rattle.bounds.specs.declared.Job.{Job}
use Rattle.bounds.proofs.Workspace.{pattern_length}

-- ---- setting blocks anew

pub record Refreshing (j : Job) (ws : List ℕ) (from to b : ℕ) (bs₀ bs : List ℕ) : Type 0 where
  pub least : from ≤ b
  pub most : b ≤ max from to
  pub done : Refreshed j ws from b bs₀ bs

-- ---- unless the row after them is in the level

-- ---- bounds of bounds
-- A row's bound is one of its block's.
tops_row : (j : Job) (ws : List ℕ) (q top : ℕ) → q < j.n → Tops j ws (q / 32) top → bound j ws q ≤ top
tops_row j ws q top h t =
    let at : 32 * (q / 32) + (q - 32 * (q / 32)) ≡ q = omega arith in
    rw at at (t.most (q - 32 * (q / 32)) (omega arith))

covering_refreshed : (j : Job) (ws : List ℕ) (from to : ℕ) (bs bs' : List ℕ) → Covering j ws bs → Refreshed j ws from to bs bs' → Covering j ws bs'
covering_refreshed j ws from to bs bs' c r = record { most = λ q h. most q h (dec_lt (q / 32) from) (dec_lt (q / 32) to) }
  where
    most : (q : ℕ) → q < j.n → Dec (q / 32 < from) → Dec (q / 32 < to) → bound j ws q ≤ get_or bs' (q / 32) 0
    most q h (yes l) d = rw (r.before (q / 32) l) (c.most q h)
    most q h (no l) (yes m) = tops_row j ws q (get_or bs' (q / 32) 0) h (r.anew (q / 32) (omega (arith, l)) m)
    most q h (no l) (no m) = rw (r.after (q / 32) (omega (arith, m))) (c.most q h)

-- After bounds fell, and some blocks were set anew, or none was.
pub covering_after : (j : Job) (ws ws' : List ℕ) (level from to : ℕ) (bs bs' : List ℕ) → Covering j ws bs → Falling j ws ws' → Renewed j ws' level from to bs bs' → Covering j ws' bs'
covering_after j ws ws' level from to bs bs' c f r = go (in_level j ws' level from to) refl
  where
    fallen : Covering j ws' bs
    fallen = record { most = λ q h. omega (arith, c.most q h, f.falls q h) }

    go : (b : Bool) → in_level j ws' level from to ≡ b → Covering j ws' bs'
    go true e = rw (r.kept e) fallen
    go false e = covering_refreshed j ws' (from / 32) ((to + 31) / 32) bs bs' fallen (r.anew e)

-- No bound exceeds the greatest of the blocks.
pub covering_top : (j : Job) (ws bs : List ℕ) (top : ℕ) → Covering j ws bs → Greatest (λ b. get_or bs b 0) (block_count j) top → (q : ℕ) → q < j.n → bound j ws q ≤ top
covering_top j ws bs top c g q h = omega (arith, c.most q h, g.most (q / 32) (omega arith))

-- ---- the next row of a level

module _ (Q : ℕ → Type 0) (j : Job) (ws : List ℕ) (level p : ℕ) (inside : p < j.n) (says : (q : ℕ) → Q q → bound j ws q ≡ level) where
  -- The rows up to the next free one are covered.
  pub past_linked : (r : ℕ) → Space j ws → 1 ≤ level → r ≡ next_of (pattern_chain j ws) p → Passing Q (p + 1) j.n r
  past_linked r s some e =
      record {
        least = omega (arith, e, next_above (pattern_chain j ws) p);
        within = omega (arith, e, s.of_pattern.ranged.ahead p (omega (arith, s.of_pattern.each, long)), s.of_pattern.each, long);
        none = λ k h l z. free k l (λ f. s.of_pattern.passed p k (omega (arith, long)) (omega arith) (omega (arith, e)) f) (says k z) (ℕ_discrete (get_or ws k 0) 0);
      }
    where
      long : length (state j ws).pattern ≡ j.n
      long = pattern_length j ws s

      small : r ≤ j.n
      small = omega (arith, e, s.of_pattern.ranged.ahead p (omega (arith, s.of_pattern.each, long)), s.of_pattern.each, long)

      free : (k : ℕ) → k < r → (Free (state j ws).pattern k → ⊥) → bound j ws k ≡ level → Dec (get_or ws k 0 ≡ 0) → ⊥
      free k l not z (yes a) = omega (arith, s.covered k (omega (arith, small)) a)
      free k l not z (no a) = not (λ y. a (sym (get_or-take j.n ws k 0 (omega (arith, small))) ∙ y))

-- Rows along the chain: no row after p up to q has the level for its bound.
pub record Along (Q : ℕ → Type 0) (n p q : ℕ) : Type 0 where
  pub inside : q < n
  pub passing : Passing Q (p + 1) n (q + 1)

module _ (Q : ℕ → Type 0) (n p q : ℕ) (a : Along Q n p q) where
  pub along_more : (cap end : ℕ) → end ≡ min cap n → q + 1 < end → (Q (q + 1) → ⊥) → Along Q n p (q + 1)
  along_more cap end e l d = record { inside = omega arith; passing = passing_one Q (p + 1) n (q + 1) a.passing (omega arith) d }

  pub along_all : (r : ℕ) → Passing Q (q + 1) n r → Passing Q (p + 1) n r
  along_all r s = passing_to Q (p + 1) n (q + 1) a.passing r s.least s.within s.none
