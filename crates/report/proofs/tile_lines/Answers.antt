-- `report::tile_lines` meets its contract: the lines of the tiles that were taken are written, and the others are left.
-- Assumes nothing.
use Rattle.std.proofs.Common.{ap, ◌∙◌}
use Rattle.report.proofs.Tiles.{lining_none, lining_room, lining_first, lining_second, lining_more}
use Rattle.report.proofs.tile_lines.Goals as goal

pub loop-tile-init : goal.loop-tile-init
loop-tile-init c =
    let e = c.into_iter-tile-iterator.ensures.into_iter_gives in
    let d = c.chunks_exact-tile-items.ensures in
    lining_none _ _ _ _ _ _ c.requires.1 c.requires.2 c.requires.0 (ap (λ x. x.rest.now) e ∙ d.rest) (ap (λ x. x.size) e ∙ d.size)

pub tile_line-end-requires : goal.tile_line-end-requires
tile_line-end-requires c =
    let s = c.in-Some.ensures.steps.1 in
    let r = c.loop-tile.invariant in
    (lining_room _ _ _ _ _ _ _ _ _ r _ _ s.0 s.1, lining_first _ _ _ _ _ _ _ _ _ r _ _ s.0 s.1, lining_second _ _ _ _ _ _ _ _ _ r _ _ s.0 s.1)

pub loop-tile-preserved : goal.loop-tile-preserved
loop-tile-preserved c =
    let s = c.in-Some.ensures.steps in
    lining_more _ _ _ _ _ _ _ _ _ c.loop-tile.invariant _ _ s.1.0 s.1.1 _ _ c.tile_line-end.ensures c.tile_line-end.auto.out _ s.0 _
