-- `chain::lead_blocks` meets its contract: at the head of each turn the first words of the blocks up to this one lead out.
-- Assumes nothing.
use Prim.Native.Nat.{◌-◌, ◌/◌}
use mathlib.Core.Path.{◌≡◌}
use Rattle.chain.specs.Unlinked.{led}
use Rattle.chain.proofs.lead_blocks.Given as goal

abbrev pub invariant-loop-block : goal.invariant-loop-block
invariant-loop-block l = l.chain ≡ led l.sides.before l.sides.next (l.at / 32) (l.block - l.at / 32) l.initial.chain
