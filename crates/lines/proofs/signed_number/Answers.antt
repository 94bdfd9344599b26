-- `lines::signed_number` meets its contract: the size follows a minus just where the number is below zero.
-- Assumes nothing.
use Rattle.lines.proofs.Signed.{signed_below, signed_other}
use Rattle.lines.proofs.signed_number.Goals as goal

pub returns-then-z-lt0 : goal.returns-then-z-lt0
returns-then-z-lt0 c = search signed_below

pub returns : goal.returns
returns c = search signed_other
