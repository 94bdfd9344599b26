-- `levels::visit` meets its contract: the row is searched as settling asks, a shorter run is its new bound, and neither takes from the engine's
-- tables what they hold.
-- Assumes nothing.
use Rattle.levels.proofs.Keep.{kept_set, kept_laid}
use Rattle.levels.proofs.Row.{sweeping_lowered, sweeping_onward}
use Rattle.levels.proofs.visit.Goals as goal

pub returns-then-found-level-clause-sweeping : goal.returns-then-found-level-clause-sweeping
returns-then-found-level-clause-sweeping g c = search sweeping_lowered

pub returns-then-found-level-clause-onward : goal.returns-then-found-level-clause-onward
returns-then-found-level-clause-onward g c = search sweeping_onward

pub returns-then-found-level-clause-serves : goal.returns-then-found-level-clause-serves
returns-then-found-level-clause-serves g c = g.met.E.Engine.kept _ _ _ _ (search kept_set) c.find-found.ensures.serves

pub returns-clause-serves : goal.returns-clause-serves
returns-clause-serves g c = let e = c.settle.ensures in
    g.met.E.Engine.kept _ _ _ _ (kept_laid _ _ _ _ _ _ e.level_bound.0 e.level_bound.1 c.requires.0.fits.space.roomy e.ws_after) c.find-found.ensures.serves
