-- `lines::number` meets its contract: the library's digits are the number's decimal digits, at most ten.
-- Assumes nothing.
use Rattle.lines.proofs.Decimal.{digits_fit, number_appended}
use borrow.Author.Rules.{rules}
use Rattle.lines.proofs.number.Goals as goal

pub append-requires : goal.append-requires
append-requires c = search (digits_fit, rules)

pub returns : goal.returns
returns c = search (number_appended, rules)
