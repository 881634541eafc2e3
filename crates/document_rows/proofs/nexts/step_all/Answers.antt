-- `document_rows::nexts::step_all` meets its contract: where the new child or the next one may not follow, all
-- may not (`new_stops`, `child_stops` of StepLaws); else those after it decide (`child_steps`), and with none left a last
-- new one (`last_steps`).
use Rattle.document_rows.proofs.StepLaws.{new_stops, child_stops, child_steps, last_steps}
use Rattle.document_rows.proofs.nexts.step_all.Goals as goal

pub returns-in_err-fresh : goal.returns-in_err-fresh
returns-in_err-fresh c = rw c.from_residual.ensures (new_stops c.loop-row.invariant c.in-Some.ensures.steps c.in_err-fresh.ensures)

pub returns-in_err-last : goal.returns-in_err-last
returns-in_err-last c =
    rw c.from_residual-in_err-last.ensures
    (child_stops c.loop-row.invariant c.in-Some.ensures.steps c.in_ok-fresh.ensures c.in_err-last.ensures)

pub loop-row-preserved : goal.loop-row-preserved
loop-row-preserved c = child_steps c.loop-row.invariant c.in-Some.ensures.steps c.in_ok-fresh.ensures c.in_ok-last.ensures c.minus-left.ensures

pub returns : goal.returns
returns c = last_steps c.loop-row.invariant c.in-None.ensures.steps.0 c.step_new-2.ensures
