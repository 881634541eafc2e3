-- `circle_check::heights_of` meets its contract: the invariant holds before the first round (`rounds_start` of
-- RoundLaws) and after each (`rounds_on`, by the contract of `round`); after n rounds it gives the heights: where by
-- `whole` each definition has one every chain ends (`rounds_end`), and else some chain does not (`rounds_fail`).
use mathlib.Core.Path.{sym, ◌∙◌}
use mathlib.Core.Bool.{false≢true}
use native.Mathlib.Omega.{arith}
use Rattle.circle_check.proofs.RoundLaws.{rounds_start, rounds_on, rounds_end, rounds_fail}
use Rattle.circle_check.proofs.heights_of.Goals as goal

pub loop-h-init : goal.loop-h-init
loop-h-init c = rounds_start _ _

pub loop-h-preserved : goal.loop-h-preserved
loop-h-preserved c =
    rounds_on c.loop-h.invariant (omega arith) c.round-of.ensures

pub returns-then-whole : goal.returns-then-whole
returns-then-whole c =
    rounds_end c.loop-h.invariant (omega arith) (c.whole.ensures.0 c.if-whole.true)

pub returns-else-whole : goal.returns-else-whole
returns-else-whole c =
    rounds_fail c.loop-h.invariant (omega arith) (λ w. false≢true (sym c.if-whole.false ∙ c.whole.ensures.1 w))
