-- What the search does to the workspace keeps the index: bounds, marked words and chains lie outside hashes and links, and every claim of the
-- index is about runs, which only shrink.
-- Assumes nothing.
use Prim.Native.Nat.{ℕ, ◌+◌, ◌*◌, ◌≤◌, ◌<◌}
use native.Mathlib.Omega.{arith}
use mathlib.Core.Path.{◌≡◌, sym, ◌∙◌, subst}
use mathlib.Core.List.{List}
use lib.ListN.{length, take, drop, get_or, set, length-take, length-drop}
use lib.Seq.{get_or-set_other}
use Rattle.tiling.specs.Run.{mark}
use Rattle.tiling.specs.Tiling.{State, run_at}
use Rattle.tiling.proofs.Run.{run_within, mark_before, mark_after}
use Rattle.tiling.proofs.Marked.{lay_shrinks}
use Rattle.bounds.specs.Workspace.{state, bounds_from, chains_from, marked, laid}
use Rattle.bounds.specs.declared.Job.{Job}
use Rattle.bounds.proofs.Workspace.{state_set, below_chains, state_laid}
use Rattle.index.specs.Indexed.{pattern_hash, text_hash, link, Indexed, Filtered}
use Rattle.index.specs.declared.pass.Pass.{Pass}

-- A run begins within both sequences.
pub row_inside : (j : Job) (ws : List ℕ) (p u : ℕ) → 1 ≤ run_at (state j ws) p u → p < j.n
row_inside j ws p u h =
    let xs = take j.n ws in
    omega (arith, run_within (drop p xs) (drop u (state j ws).text), length-drop p xs, length-take j.n ws)

pub column_inside : (j : Job) (ws : List ℕ) (p u : ℕ) → 1 ≤ run_at (state j ws) p u → u < j.m
column_inside j ws p u h =
    let ys = take j.m (drop j.n ws) in
    omega (arith, run_within (drop p (state j ws).pattern) (drop u ys), length-drop u ys, length-take j.m (drop j.n ws))

-- The workspace changed: no run is longer, and hashes and links are as they were.
pub record Kept (j : Job) (ws ws' : List ℕ) : Type 0 where
  pub shrinks : (p u : ℕ) → run_at (state j ws') p u ≤ run_at (state j ws) p u
  pub of_pattern : (p : ℕ) → p < j.n → pattern_hash j ws' p ≡ pattern_hash j ws p
  pub of_text : (t : ℕ) → t < j.m → text_hash j ws' t ≡ text_hash j ws t
  pub linked : (t : ℕ) → t < j.m → link j ws' t ≡ link j ws t

pub indexed_kept : (x : Pass) (ws ws' heads : List ℕ) → Kept x.job ws ws' → Indexed x ws heads → Indexed x ws' heads
indexed_kept x ws ws' heads c i =
    record {
      linked = i.linked;
      least = i.least;
      kin = λ p u h. rw (c.of_text u (inside_text p u h), c.of_pattern p (inside_pattern p u h)) (i.kin p u (before p u h));
      head = λ p u h. rw (c.of_pattern p (inside_pattern p u h)) (i.head p u (before p u h));
      next = λ p u v h l e.
          let w : v < x.job.m = omega (arith, l, inside_text p u h) in
          rw (c.linked v w) (i.next p u v (before p u h) l (rw (c.of_pattern p (inside_pattern p u h)) at e));
      head_linked = i.head_linked;
      next_linked = λ b v h e l. rw (c.linked v h) (i.next_linked b v h e (omega (arith, l, c.linked v h)));
      rising = λ b v h e. rw (c.linked v h) (i.rising b v h e);
    }
  where
    before : (p u : ℕ) → x.s ≤ run_at (state x.job ws') p u → x.s ≤ run_at (state x.job ws) p u
    before p u h = omega (arith, h, c.shrinks p u)

    inside_pattern : (p u : ℕ) → x.s ≤ run_at (state x.job ws') p u → p < x.job.n
    inside_pattern p u h = row_inside x.job ws' p u (omega (arith, h, i.least))

    inside_text : (p u : ℕ) → x.s ≤ run_at (state x.job ws') p u → u < x.job.m
    inside_text p u h = column_inside x.job ws' p u (omega (arith, h, i.least))

pub filtered_kept : (x : Pass) (ws ws' filter : List ℕ) → Kept x.job ws ws' → Filtered x ws filter → Filtered x ws' filter
filtered_kept x ws ws' filter c f =
    record {
      known = λ p u h.
          rw (c.of_pattern p (row_inside x.job ws' p u (omega (arith, h, x.one)))) (f.known p u (omega (arith, h, c.shrinks p u)));
    }

-- Hashes and links are as they were where what stands between the sequences and the bounds is, and what stands between the bounds and the
-- chains; the pass may be said to be of this comparison.
module _ (x : Pass) (j : Job) (ws ws' : List ℕ) (same : x.job ≡ j) (shrinks : (p u : ℕ) → run_at (state j ws') p u ≤ run_at (state j ws) p u) (hashes : (a : ℕ) → j.n + j.m ≤ a → a < bounds_from j → get_or ws' a 0 ≡ get_or ws a 0) (links : (a : ℕ) → bounds_from j + j.n ≤ a → a < chains_from j → get_or ws' a 0 ≡ get_or ws a 0) where
  pub unmoved : Kept x.job ws ws'
  unmoved =
      subst (λ i. Kept i ws ws') (sym same)
      (record {
        shrinks = shrinks;
        of_pattern = λ p h. hashes (j.n + j.m + p) (omega arith) (omega arith);
        of_text = λ t h. hashes (j.n + j.m + j.n + t) (omega arith) (omega arith);
        linked = λ t h. links (bounds_from j + j.n + t) (omega arith) (omega arith);
      })

  pub indexed_unmoved : (heads : List ℕ) → Indexed x ws heads → Indexed x ws' heads
  indexed_unmoved heads = indexed_kept x ws ws' heads unmoved

  pub filtered_unmoved : (filter : List ℕ) → Filtered x ws filter → Filtered x ws' filter
  filtered_unmoved filter = filtered_kept x ws ws' filter unmoved

-- A new bound.
pub kept_set : (j : Job) (ws : List ℕ) (p v : ℕ) → p < j.n → Kept j ws (set ws (bounds_from j + p) v)
kept_set j ws p v h =
    record {
      shrinks = λ q u. subst (λ (z : State). run_at z q u ≤ run_at (state j ws) q u) (sym (state_set j ws p v)) (omega arith);
      of_pattern = λ q l. get_or-set_other ws (bounds_from j + p) (j.n + j.m + q) v 0 (λ e. omega arith);
      of_text = λ t l. get_or-set_other ws (bounds_from j + p) (j.n + j.m + j.n + t) v 0 (λ e. omega arith);
      linked = λ t l. get_or-set_other ws (bounds_from j + p) (bounds_from j + j.n + t) v 0 (λ e. omega arith);
    }

-- A tile: its words are marked and taken out of the chains, which stand past the links.
pub kept_laid : (j : Job) (ws : List ℕ) (p t len : ℕ) → p + len ≤ j.n → t + len ≤ j.m → 4 * (j.n + j.m) ≤ length ws → Kept j ws (laid j p t len ws)
kept_laid j ws p t len h l room =
    record {
      shrinks = λ q u. subst (λ (z : State). run_at z q u ≤ run_at (state j ws) q u) (sym (state_laid j ws p t len h l room)) (lay_shrinks (state j ws) (record { p = p; t = t; len = len }) q u);
      of_pattern = λ q b. below (j.n + j.m + q) (omega arith) ∙ (mark_before (bounds_from j + p) len ws₂ (j.n + j.m + q) (omega arith) ∙ past (j.n + j.m + q) (omega arith));
      of_text = λ u b. below (j.n + j.m + j.n + u) (omega arith) ∙ (mark_before (bounds_from j + p) len ws₂ (j.n + j.m + j.n + u) (omega arith) ∙ past (j.n + j.m + j.n + u) (omega arith));
      linked = λ u b. below (bounds_from j + j.n + u) (omega arith) ∙ (mark_after (bounds_from j + p) len ws₂ (bounds_from j + j.n + u) (omega arith) ∙ past (bounds_from j + j.n + u) (omega arith));
    }
  where
    ws₂ : List ℕ
    ws₂ = mark (j.n + t) len (mark p len ws)

    below : (a : ℕ) → a < chains_from j → get_or (laid j p t len ws) a 0 ≡ get_or (marked j p t len ws) a 0
    below = below_chains j ws p t len h l room

    past : (a : ℕ) → j.n + j.m ≤ a → get_or ws₂ a 0 ≡ get_or ws a 0
    past a b = mark_after (j.n + t) len (mark p len ws) a (omega arith) ∙ mark_after p len ws a (omega arith)
