-- `index::Index::raise_rows` meets its contract: at the head of each turn the entries of the free windows from p on are set.
-- Assumes nothing.
use Rattle.index.proofs.Rows.{Raising}
use Rattle.index.proofs.Index.raise_rows.Given as goal

abbrev pub invariant-loop-p : goal.invariant-loop-p
invariant-loop-p l = Raising l.fn.self.pass l.ws l.filter l.fn.from.0 l.p
