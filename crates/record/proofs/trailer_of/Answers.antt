-- `record::trailer_of` meets its contract: the fold's sum, modulo 2^30, is the checksum of the header and the words.
-- Assumes nothing.
use borrow.Author.Rules.{rules}
use Rattle.record.proofs.Format.{summed}
use Rattle.record.proofs.trailer_of.Goals as goal

pub returns : goal.returns
returns c = search (summed, rules)
