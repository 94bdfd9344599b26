-- What an engine owes (the laws of `Engine` of levels), said of any pass, heads and filter: the index looks for no run below the minimum, and
-- neither a new bound nor a tile takes from it what it holds. An implementation of a trait can cite no proof of its own crate, so that of
-- `Finder` says them of its own index, by the pass and by the same two laws of index.
-- Assumes nothing.
use Prim.Native.Nat.{ℕ, ◌≤◌}
use mathlib.Core.Path.{◌≡◌, subst}
use mathlib.Core.List.{List}
use Rattle.bounds.specs.declared.Job.{Job}
use Rattle.levels.specs.Kept.{Kept, Enough}
use Rattle.index.specs.Indexed.{Filtered}
use Rattle.index.specs.declared.pass.Pass.{Pass}
use Rattle.index.proofs.Kept.{Kept as Unmoved, unmoved as index_unmoved, indexed_unmoved, filtered_unmoved}
use Rattle.rows.specs.Serving.{Serving}

pub serving_enough : (x : Pass) (heads : List ℕ) (j : Job) (ws : List ℕ) → Serving x heads j ws → Enough j x.s
serving_enough x heads j ws s = record { some = x.one; long = subst (λ k. k.minimum ≤ x.s) s.job x.enough }

-- Hashes and links stand where they stood.
pub unmoved : (x : Pass) (j : Job) (ws ws' : List ℕ) → x.job ≡ j → Kept j ws ws' → Unmoved x.job ws ws'
unmoved x j ws ws' same k = index_unmoved x j ws ws' same k.shrinks k.hashes k.links

pub serving_kept : (x : Pass) (heads : List ℕ) (j : Job) (ws ws' : List ℕ) → Kept j ws ws' → Serving x heads j ws → Serving x heads j ws'
serving_kept x heads j ws ws' k s = record { job = s.job; indexed = indexed_unmoved x j ws ws' s.job k.shrinks k.hashes k.links heads s.indexed }

pub filling_kept : (x : Pass) (heads filter : List ℕ) (j : Job) (ws ws' : List ℕ) → Kept j ws ws' → Serving x heads j ws → Filtered x ws filter → Filtered x ws' filter
filling_kept x heads filter j ws ws' k s f = filtered_unmoved x j ws ws' s.job k.shrinks k.hashes k.links filter f
