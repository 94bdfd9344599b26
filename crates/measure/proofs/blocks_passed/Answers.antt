-- `measure::blocks_passed` meets its contract: at the head of each turn n pairs are passed, in whole blocks, by any test that the calls
-- are answered by, and the loop ends where a part has too few words for another block, or at a block that has a pair that does not pass.
-- Assumes nothing.
use native.Mathlib.Omega.{arith}
use borrow.Author.Tests.{leb-true}
use Rattle.measure.proofs.Blocks.{blocks_more, blocks_stop}
use Rattle.measure.proofs.Pairs.{pairs_after, short_first, short_second}
use borrow.Author.Rules.{rules}
use Rattle.measure.proofs.blocks_passed.Goals as goal

pub loop-n-preserved : goal.loop-n-preserved
loop-n-preserved g c = (
  λ test told. let b = c.loop-n.invariant.0 test told in
      blocks_more _ c.loop-n.n _ b (pairs_after test c.args.words.now c.args.others.now c.loop-n.n b.held) c.block_passes.result (c.block_passes.ensures test told) c.if-block_passes.true,
  search rules,
  omega (arith, leb-true),
)

pub returns-else-block_passes-clause-passed : goal.returns-else-block_passes-clause-passed
returns-else-block_passes-clause-passed g c = λ test told.
    let b = c.loop-n.invariant.0 test told in
    blocks_stop _ c.loop-n.n _ b (pairs_after test c.args.words.now c.args.others.now c.loop-n.n b.held) c.block_passes.result (c.block_passes.ensures test told) c.if-block_passes.false

pub returns-else-others-n-ge-BLOCK-clause-passed : goal.returns-else-others-n-ge-BLOCK-clause-passed
returns-else-others-n-ge-BLOCK-clause-passed g c = λ test told.
    short_second test c.args.words.now c.args.others.now c.loop-n.n (c.loop-n.invariant.0 test told) c.if-others-n-ge-BLOCK.false

pub returns-after-loop-n-clause-passed : goal.returns-after-loop-n-clause-passed
returns-after-loop-n-clause-passed g c = λ test told.
    short_first test c.args.words.now c.args.others.now c.loop-n.n (c.loop-n.invariant.0 test told) c.loop-n-test.false
