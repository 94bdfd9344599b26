-- `bounds::greatest_bound` meets its contract: the bounds of the rows are the part of the workspace that is searched for its greatest word.
-- Assumes nothing.
use borrow.Author.Rules.{rules}
use Rattle.bounds.proofs.Workspace.{greatest_rows}
use Rattle.bounds.proofs.View.greatest_bound.Goals as goal

pub returns-in-Some : goal.returns-in-Some
returns-in-Some c = let a = c.args in let whole = c.in-Some.ensures in
    greatest_rows a.self.now.job a.self.now.words.now a.from a.to c.greatest_of_block.result (search rules) (search rules) (search rules) (rw whole.cases.same at c.greatest_of_block.ensures)

pub returns-in-None : goal.returns-in-None
returns-in-None c = let a = c.args in
    greatest_rows a.self.now.job a.self.now.words.now a.from a.to c.greatest.result (search rules) (search rules) (search rules) c.greatest.ensures
