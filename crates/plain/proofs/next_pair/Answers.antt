-- `plain::next_pair` meets its contract: the words stand at once, or the positions of the part that lack either word are passed.
-- Assumes nothing.
use Prim.Native.Nat.{◌≤◌}
use native.Mathlib.Omega.{arith}
use Rattle.plain.proofs.Next.{passed_few, pair_passed}
use Rattle.plain.proofs.next_pair.Goals as goal

pub overflow_add-result : goal.overflow_add-result
overflow_add-result c = let few : c.positions_before-passed.result ≤ c.min-count.result = search passed_few in record { fits = omega (arith, few) }

pub returns : goal.returns
returns c = search pair_passed
