-- `sweep::alike_bound` meets its contract: the words are compared only where the other row's bound is below cap.
-- Assumes nothing.
use Rattle.sweep.proofs.Told.{by_cap, by_unlike, by_alike}
use Rattle.sweep.proofs.alike_bound.Goals as goal

pub returns-then-cap-len : goal.returns-then-cap-len
returns-then-cap-len c = search by_cap

pub returns-then-not-alike : goal.returns-then-not-alike
returns-then-not-alike c = search by_unlike

pub returns : goal.returns
returns c = search by_alike
