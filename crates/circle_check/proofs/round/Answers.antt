-- `circle_check::round` meets its contract: the invariant holds before the first definition (`rounding_starts` of
-- RoundLaws) and after each, by what `particles_part` reads and `raised` answers (`rounding_on`); past the last it is
-- `Round` (`rounding_ends`).
use native.Mathlib.Omega.{arith}
use Rattle.circle_check.proofs.RoundLaws.{rounding_starts, rounding_on, rounding_ends}
use Rattle.circle_check.proofs.round.Goals as goal

pub loop-i-init : goal.loop-i-init
loop-i-init c = rounding_starts _ _ _ _ _

pub loop-i-preserved : goal.loop-i-preserved
loop-i-preserved c =
    rounding_on c.loop-i.invariant _ _ _ (omega arith) (omega arith) c.definition_particles_at-count.ensures (omega arith)
    c.particles_part-model.ensures c.raised.ensures

pub returns : goal.returns
returns c = rounding_ends c.loop-i.invariant (omega arith)
