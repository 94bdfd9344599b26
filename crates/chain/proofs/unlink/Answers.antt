-- `chain::unlink` meets its contract: the free words on either side are those that the first and the last word point to.
-- Assumes nothing.
use Rattle.chain.proofs.Unlinking.{low, high, ordered, few, unlinked_is}
use borrow.Author.Rules.{rules}
use Rattle.chain.proofs.unlink.Goals as goal

pub invariant_of-sides : goal.invariant_of-sides
invariant_of-sides c = search ordered

pub lead-requires : goal.lead-requires
lead-requires c = (search rules, search low, search rules, search high, search few)

pub returns : goal.returns
returns c = search unlinked_is
