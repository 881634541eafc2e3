-- `document_rows::nexts::step` meets its contract: y is stepped over (`stepped_one` of StepLaws) or may not come
-- (`stepped_out`), as `follows` says.
use mathlib.Core.Path.{refl, sym, ◌∙◌}
use Rattle.document_rows.proofs.StepLaws.{stepped_one, stepped_out}
use Rattle.document_rows.proofs.nexts.step.Goals as goal

pub returns-then-follows : goal.returns-then-follows
returns-then-follows c = stepped_one _ _ c.args.y _ refl (sym c.if-follows.true ∙ c.follows.ensures)

pub returns : goal.returns
returns c = stepped_out _ _ c.args.y (sym c.if-follows.false ∙ c.follows.ensures)
