-- `lengths::Windows::pays` meets its contract, by its two tests.
-- Assumes nothing.
use Rattle.lengths.proofs.Choice.{pays_not, pays_by}
use Rattle.lengths.proofs.Windows.pays.Goals as goal

pub returns-then-s-gt8 : goal.returns-then-s-gt8
returns-then-s-gt8 c = search pays_not

pub returns : goal.returns
returns c = search pays_by
