-- `escaping::is_plain` meets its contract: of false nothing is promised. A byte that is none of the four keeps the
-- invariant (`plain_on` of Laws), and at the end no byte is left to escape (`plain_end`).
use mathlib.Core.Bool.{false≢true}
use native.Mathlib.Omega.{arith}
use Rattle.escaping.proofs.Laws.{plain_on, plain_end}
use Rattle.escaping.proofs.is_plain.Goals as goal

pub loop-x-init : goal.loop-x-init
loop-x-init c = λ p. p

pub returns-then-x : goal.returns-then-x
returns-then-x c = λ e. absurd (false≢true e)

pub loop-x-preserved : goal.loop-x-preserved
loop-x-preserved c =
    plain_on c.args.value.now c.loop-x.x-index (omega arith) c.if-x.false c.loop-x.invariant

pub returns : goal.returns
returns c =
    λ e. plain_end c.args.value.now c.loop-x.x-index (omega arith) c.loop-x.invariant
