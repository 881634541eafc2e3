-- `look_up_calls::look_up_place` meets its contract: the case split is on what `passes` answers: a bad store gives 1,
-- with place and length 0 (`looks_bad` of Laws), a good one what `find_value` gives (`looks_good`).
use mathlib.Core.Path.{ap}
use mathlib.Core.Bool.{not}
use Rattle.look_up_calls.proofs.Laws.{looks_bad, looks_good}
use Rattle.look_up_calls.proofs.look_up_place.Goals as goal

pub returns-then-not-passes : goal.returns-then-not-passes
returns-then-not-passes c =
    let e = c.from.ensures in
    rw (e.0, e.1, e.2) (looks_bad _ _ (ap not c.if-not-passes.true) c.passes.ensures)

pub returns : goal.returns
returns c =
    let e = c.from-2.ensures in
    rw (e.0, e.1, e.2) (looks_good _ _ (ap not c.if-not-passes.false) c.passes.ensures c.find_value.ensures)
