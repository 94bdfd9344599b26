-- What the index of a pass must hold of a workspace while its rows are searched. No reader of the engines' contracts needs it.
use Rattle.std.specs.Prelude.{ℕ, ◌≡◌, List}
use Rattle.bounds.specs.declared.Job.{Job}
use Rattle.index.specs.Indexed.{Indexed}
use Rattle.index.specs.declared.pass.Pass.{Pass}

-- The index is of this comparison, and has the windows of the workspace. While bounds are set the filter has them as well (`Filtered`).
pub record Serving (x : Pass) (heads : List ℕ) (j : Job) (ws : List ℕ) : Type 0 where
  pub job : x.job ≡ j
  pub indexed : Indexed x ws heads
