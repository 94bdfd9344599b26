-- `chain::point_back` meets its contract: the next word has a new previous one, and keeps its own next one.
-- Assumes nothing.
use native.Mathlib.Omega.{arith}
use Rattle.chain.proofs.Links.{next_above}
use Rattle.chain.proofs.Unlinking.{back_none, back_some, is_above, is_within}
use borrow.Author.Rules.{rules}
use Rattle.chain.proofs.point_back.Goals as goal

pub returns-then-chain-sides : goal.returns-then-chain-sides
returns-then-chain-sides c = search back_none

pub invariant_of-beside : goal.invariant_of-beside
invariant_of-beside c = let a = c.args in record { ordered = omega (arith, next_above a.chain.now a.sides.next, a.sides.ordered) }

pub set_entry-requires : goal.set_entry-requires
set_entry-requires c = (search rules, search rules, search is_above, search is_within)

pub returns : goal.returns
returns c = search back_some
