-- `automaton::finishes` meets its contract: before the first child the return is whether the model accepts nothing
-- (`finish_none` of FactsLaws in `model`), and after a child whether that child may be the last (`finish_last`).
use Rattle.model.proofs.FactsLaws.{finish_none, finish_last}
use Rattle.automaton.proofs.finishes.Goals as goal

pub returns-then-last-eq0 : goal.returns-then-last-eq0
returns-then-last-eq0 c = finish_none _ _ _ _ _ c.if-last-eq0.true c.facts.ensures

pub returns : goal.returns
returns c = finish_last _ _ _ c.if-last-eq0.false c.facts-2.ensures
