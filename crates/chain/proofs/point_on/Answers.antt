-- `chain::point_on` meets its contract: the previous word has a new next one, and keeps its own previous one.
-- Assumes nothing.
use Prim.Native.Nat.{◌-◌}
use native.Mathlib.Omega.{arith}
use Rattle.chain.proofs.Links.{before_below}
use Rattle.chain.proofs.Unlinking.{on_none, on_some, is_below}
use borrow.Author.Rules.{rules}
use Rattle.chain.proofs.point_on.Goals as goal

pub returns-then-sides-eq0 : goal.returns-then-sides-eq0
returns-then-sides-eq0 c = search on_none

pub invariant_of-beside : goal.invariant_of-beside
invariant_of-beside c = let a = c.args in record { ordered = omega (arith, before_below a.chain.now (a.sides.before - 1), a.sides.ordered) }

pub set_entry-requires : goal.set_entry-requires
set_entry-requires c = (search rules, search is_below, search rules, search rules)

pub returns : goal.returns
returns c = search on_some
