-- `document_rows::nexts::step_new` meets its contract: at place 1 the new child is stepped over (`new_one` of
-- StepLaws), and at any other place there is nothing to step over (`new_none`).
use Rattle.document_rows.proofs.StepLaws.{as_word, stepped_none, new_one, new_none}
use Rattle.document_rows.proofs.nexts.step_new.Goals as goal

pub returns-then-place-eq1 : goal.returns-then-place-eq1
returns-then-place-eq1 c = as_word _ _ (new_one _ _ c.if-place-eq1.true) c.step.ensures

pub returns : goal.returns
returns c = as_word _ _ (new_none _ _ c.if-place-eq1.false) (stepped_none _ _)
