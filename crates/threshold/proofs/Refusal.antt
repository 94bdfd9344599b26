-- What a call is known to have where no cause of a refusal holds: a threshold that there is.
-- Assumes nothing.
use Prim.Native.Nat.{ℕ, ◌+◌, ◌*◌, ◌≤◌}
use native.Mathlib.Omega.{arith}
use mathlib.Core.Path.{◌≡◌}
use mathlib.Core.List.{List}
use borrow.Author.Tests.{ltb-false}
use lib.Dec.{ltb}
use lib.ListN.{length}
use Rattle.refusal.specs.Refusal.{refuse}
use Rattle.refusal.proofs.Causes.{clear}
use Rattle.tiling.proofs.Comparing.{search_rest}
use Rattle.threshold.specs.Promise.{threshold_refusal}

pub accepted_threshold : (first second : List ℕ) (minimum buckets start threshold workspace : ℕ) → threshold_refusal first second minimum buckets start threshold workspace ≡ 0 → threshold ≤ 1000
accepted_threshold first second minimum buckets start threshold workspace z =
    let e = search_rest first second minimum buckets start _ z in
    let of_workspace = clear (ltb workspace (4 * (length first + length second))) 6 (refuse (ltb 1000 threshold) 12 0) (omega arith) e in
    ltb-false 1000 threshold (clear (ltb 1000 threshold) 12 0 (omega arith) of_workspace.rest).first
