-- `look_up_calls::check` meets its contract: the two cases of what `passes` answers are the two clauses of
-- `check_answer` (`check_yes`, `check_no` of Laws).
use Rattle.look_up_calls.proofs.Laws.{check_yes, check_no}
use Rattle.look_up_calls.proofs.check.Goals as goal

pub returns-then-passes : goal.returns-then-passes
returns-then-passes c =
    check_yes c.args.store.now c.if-passes.true c.passes.ensures

pub returns-else-passes : goal.returns-else-passes
returns-else-passes c =
    check_no c.args.store.now c.if-passes.false c.passes.ensures
