-- `cover::every_minimum` meets its contract: where no cause holds it compares at minimum 1, and the entries are filled from the tiles that were
-- laid.
-- Assumes nothing.
use lib.ListN.{length}
use borrow.Author.Rules.{rules}
use Rattle.cover.proofs.Accepted.{Accepted, accepted, compared_those, tiles_whole, tiles_few, every_accepted}
use Rattle.cover.proofs.every_minimum.Goals as goal

pub fill-requires : goal.fill-requires
fill-requires c =
    let a = c.args in
    let e = c.in_ok-search.ensures in
    let k : Accepted a.first.now a.second.now a.settings.buckets a.settings.start (length a.workspace.now) (length a.tiles.now) (length a.cover.now) =
    accepted _ _ _ _ _ _ _ e.checked in
    let d = compared_those e.same.0 e.same.1 e.same.2 c.compare_accepted-sum.ensures in
    (search (tiles_whole, k, d, rules), search (tiles_few, k, d), k.enough)

pub returns : goal.returns
returns c =
    let e = c.in_ok-search.ensures in
    let d = compared_those e.same.0 e.same.1 e.same.2 c.compare_accepted-sum.ensures in
    every_accepted _ _ _ _ _ _ _ e.checked c.compare_accepted-sum.result _ _ _ d c.fill.ensures
