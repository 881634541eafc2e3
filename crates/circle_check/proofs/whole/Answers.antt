-- `circle_check::whole` meets its contract: a height of 0 makes the answer false (`passed_no` of RoundLaws); any other
-- keeps the invariant (`passed_starts`, `passed_on`), and past the last definition the answer is true (`passed_ends`).
use native.Mathlib.Omega.{arith}
use Rattle.circle_check.proofs.RoundLaws.{passed_starts, passed_on, passed_no, passed_ends}
use Rattle.circle_check.proofs.whole.Goals as goal

pub loop-i-init : goal.loop-i-init
loop-i-init c = passed_starts _ _

pub returns-then-heights-i-eq0 : goal.returns-then-heights-i-eq0
returns-then-heights-i-eq0 c =
    passed_no c.args.heights.now (omega arith) c.if-heights-i-eq0.true

pub loop-i-preserved : goal.loop-i-preserved
loop-i-preserved c =
    passed_on c.loop-i.invariant (omega arith) c.if-heights-i-eq0.false

pub returns : goal.returns
returns c = passed_ends c.loop-i.invariant (omega arith)
