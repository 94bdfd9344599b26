-- A new bound and a tile change neither what stands between the sequences and the bounds nor what stands between the bounds and the chains,
-- and no run is longer after either.
-- Assumes nothing.
use Prim.Native.Nat.{ℕ, ◌+◌, ◌*◌, ◌≤◌, ◌<◌}
use native.Mathlib.Omega.{arith}
use mathlib.Core.Path.{◌≡◌, sym, ◌∙◌, subst}
use mathlib.Core.List.{List}
use lib.ListN.{length, get_or, set}
use lib.Seq.{get_or-set_other}
use Rattle.tiling.specs.Run.{mark}
use Rattle.tiling.specs.Tiling.{State, run_at}
use Rattle.tiling.proofs.Run.{mark_before, mark_after}
use Rattle.tiling.proofs.Marked.{lay_shrinks}
use Rattle.bounds.specs.Workspace.{state, bounds_from, chains_from, marked, laid}
use Rattle.bounds.specs.declared.Job.{Job}
use Rattle.bounds.proofs.Workspace.{state_set, below_chains, state_laid}
use Rattle.levels.specs.Kept.{Kept}

-- A new bound.
pub kept_set : (j : Job) (ws ws' : List ℕ) (p v : ℕ) → p < j.n → ws' ≡ set ws (bounds_from j + p) v → Kept j ws ws'
kept_set j ws ws' p v h made =
    subst (λ y. Kept j ws y) (sym made)
    (record {
      shrinks = λ q u. subst (λ (z : State). run_at z q u ≤ run_at (state j ws) q u) (sym (state_set j ws p v)) (omega arith);
      hashes = λ a b l. get_or-set_other ws (bounds_from j + p) a v 0 (λ e. omega arith);
      links = λ a b l. get_or-set_other ws (bounds_from j + p) a v 0 (λ e. omega arith);
    })

-- A tile: its words are marked and taken out of the chains, which stand past the links.
pub kept_laid : (j : Job) (ws ws' : List ℕ) (p t len : ℕ) → p + len ≤ j.n → t + len ≤ j.m → 4 * (j.n + j.m) ≤ length ws → ws' ≡ laid j p t len ws → Kept j ws ws'
kept_laid j ws ws' p t len h l room made =
    subst (λ y. Kept j ws y) (sym made)
    (record {
      shrinks = λ q u. subst (λ (z : State). run_at z q u ≤ run_at (state j ws) q u) (sym (state_laid j ws p t len h l room)) (lay_shrinks (state j ws) (record { p = p; t = t; len = len }) q u);
      hashes = λ a b c. below a (omega arith) ∙ (mark_before (bounds_from j + p) len ws₂ a (omega arith) ∙ past a (omega arith));
      links = λ a b c. below a c ∙ (mark_after (bounds_from j + p) len ws₂ a (omega arith) ∙ past a (omega arith));
    })
  where
    ws₂ : List ℕ
    ws₂ = mark (j.n + t) len (mark p len ws)

    below : (a : ℕ) → a < chains_from j → get_or (laid j p t len ws) a 0 ≡ get_or (marked j p t len ws) a 0
    below = below_chains j ws p t len h l room

    past : (a : ℕ) → j.n + j.m ≤ a → get_or ws₂ a 0 ≡ get_or ws a 0
    past a b = mark_after (j.n + t) len (mark p len ws) a (omega arith) ∙ mark_after p len ws a (omega arith)
