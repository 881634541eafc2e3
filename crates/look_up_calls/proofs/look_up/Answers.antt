-- `look_up_calls::look_up` meets its contract: the case split is on what `passes` answers: a bad store gives the empty
-- part and 1 (`hands_bad` of Laws), a good one what `value_of` gives (`hands_good`).
use mathlib.Core.Path.{ap}
use mathlib.Core.Bool.{not}
use Rattle.look_up_calls.proofs.Laws.{hands_bad, hands_good}
use Rattle.look_up_calls.proofs.look_up.Goals as goal

pub returns-then-not-passes : goal.returns-then-not-passes
returns-then-not-passes c =
    hands_bad _ _ (ap not c.if-not-passes.true) c.passes.ensures

pub returns : goal.returns
returns c =
    hands_good _ _ (ap not c.if-not-passes.false) c.passes.ensures c.value_of.ensures
