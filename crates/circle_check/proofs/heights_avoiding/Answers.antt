-- `circle_check::heights_avoiding` meets its contract: the invariant holds before the first round (`avoiding_starts` of
-- AvoidLaws) and after each, the target's height set to 0 (`avoiding_on`, by the contract of `round`); after n rounds
-- it is the contract (`avoiding_ends`).
use native.Mathlib.Omega.{arith}
use Rattle.circle_check.proofs.AvoidLaws.{avoiding_starts, avoiding_on, avoiding_ends}
use Rattle.circle_check.proofs.heights_avoiding.Goals as goal

pub loop-rounds-init : goal.loop-rounds-init
loop-rounds-init c = avoiding_starts _ _ _

pub loop-rounds-preserved : goal.loop-rounds-preserved
loop-rounds-preserved c =
    avoiding_on c.loop-rounds.invariant c.requires.1 (omega arith) c.round-of.ensures

pub returns : goal.returns
returns c = avoiding_ends c.loop-rounds.invariant (omega arith)
