-- `automaton::steps` meets its contract: before the first child the return is whether y may be the first (`step_first`
-- of FactsLaws in `model`), and after a child whether y may follow it (`step_follow`).
use Rattle.model.proofs.FactsLaws.{step_first, step_follow}
use Rattle.automaton.proofs.steps.Goals as goal

pub returns-then-last-eq0 : goal.returns-then-last-eq0
returns-then-last-eq0 c = step_first _ _ _ _ c.if-last-eq0.true c.facts.ensures

pub returns : goal.returns
returns c = step_follow _ _ _ _ c.if-last-eq0.false c.facts-2.ensures
