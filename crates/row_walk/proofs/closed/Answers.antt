-- `row_walk::closed` meets its contract: what is open is what the definition gives by the test that `closes` answers
-- (`closed_by` of RowLaws).
use mathlib.Core.Path.{sym, ◌∙◌}
use Rattle.row_walk.specs.Step.{valueless}
use Rattle.row_walk.proofs.RowLaws.{closed_by}
use Rattle.row_walk.proofs.closed.Goals as goal

pub returns-then-closes : goal.returns-then-closes
returns-then-closes c = closed_by c.args.o (valueless c.args.h) (sym c.if-closes.true ∙ c.closes.ensures)

pub returns : goal.returns
returns c = closed_by c.args.o (valueless c.args.h) (sym c.if-closes.false ∙ c.closes.ensures)
