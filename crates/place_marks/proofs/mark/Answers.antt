-- `place_marks::mark` meets its contract: each step marks the first particle that is left, if it is an element, and so
-- keeps the invariant (`marking_on` of WriteLaws). At the end no particle is left to mark (`marking_ends`).
use mathlib.Core.Path.{◌∙◌}
use native.Mathlib.Omega.{arith}
use Rattle.place_marks.proofs.WriteLaws.{marking_starts, marking_on, marking_ends}
use Rattle.place_marks.proofs.mark.Goals as goal

pub loop-particle-init : goal.loop-particle-init
loop-particle-init c =
    let new = c.chunks_exact-particle-items.ensures in
    rw c.into_iter-particle-iterator.ensures.into_iter_gives (new.size, rw new.rest marking_starts)

pub loop-particle-preserved : goal.loop-particle-preserved
loop-particle-preserved c =
    let loop = c.loop-particle.invariant in
    let step = c.in-Some.ensures.steps in
    (step.0 ∙ loop.0, marking_on _ _ loop.1 step.1.0 (step.1.1 ∙ loop.0) c.mark_first.ensures c.mark_first.auto.marks)

pub returns : goal.returns
returns c =
    let loop = c.loop-particle.invariant in
    marking_ends loop.1 (omega (arith, loop.0, c.in-None.ensures.steps.1.0))
