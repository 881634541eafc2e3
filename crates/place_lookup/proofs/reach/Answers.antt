-- `place_lookup::reach` meets its contract: a particle less deep than d, or none, ends the list (`chunk_stop` of
-- StepLaws, `left_few` of PlacesLaws). One of depth d is the member where m is 0 (`chunk_member`), else it is passed and
-- counted (`chunk_pass`). A deeper one is passed (`chunk_deeper`).
use mathlib.Core.Path.{◌∙◌}
use native.Mathlib.Omega.{arith}
use Rattle.model.proofs.ChunkLaws.{front}
use Rattle.model.proofs.PlacesLaws.{left_all, left_few}
use Rattle.place_lookup.proofs.StepLaws.{chunk_stop, chunk_member, chunk_pass, chunk_deeper}
use Rattle.place_lookup.proofs.reach.Goals as goal
use Rattle.place_lookup.proofs.reach.Goals.{then-depth-d-2+else-m-eq0, else-depth-d-2}

pub loop-particle-init : goal.loop-particle-init
loop-particle-init c =
    let new = c.chunks_exact-particle-items.ensures in
    rw c.into_iter-particle-iterator.ensures.into_iter_gives (new.size, rw new.rest (left_all _ _ _))

pub returns-then-depth-d : goal.returns-then-depth-d
returns-then-depth-d c =
    let loop = c.loop-particle.invariant in
    let step = c.in-Some.ensures.steps in
    c.ended.ensures ∙ chunk_stop (front _ _ _ step.1.0 (step.1.1 ∙ loop.0)) c.particle_depth-depth.ensures loop.1 (omega arith)

pub returns-then-m-eq0 : goal.returns-then-m-eq0
returns-then-m-eq0 c =
    let loop = c.loop-particle.invariant in
    let step = c.in-Some.ensures.steps in
    chunk_member (front _ _ _ step.1.0 (step.1.1 ∙ loop.0)) c.particle_depth-depth.ensures loop.1 c.if-depth-d-2.true c.if-m-eq0.true

pub overflow_add-p : goal.overflow_add-p
overflow_add-p c = omega (arith, c.loop-particle.invariant.1.sum)

pub loop-particle-preserved : goal.loop-particle-preserved
loop-particle-preserved c =
    let loop = c.loop-particle.invariant in
    let step = c.in-Some.ensures.steps in
    let first = front _ _ _ step.1.0 (step.1.1 ∙ loop.0) in
    let depth = c.particle_depth-depth.ensures in
    elim c.if-depth-d-2.branch [
      | then-depth-d-2+else-m-eq0 w ↦ (step.0 ∙ loop.0, rw w.m-is (chunk_pass first depth loop.1 w.if-depth-d-2.true w.if-m-eq0.false))
      | else-depth-d-2 w ↦ (step.0 ∙ loop.0, rw w.m-is (chunk_deeper first depth loop.1 (omega (arith, w.if-depth-d-2.false))))
    ]

pub returns : goal.returns
returns c =
    let loop = c.loop-particle.invariant in
    c.ended-2.ensures ∙ left_few _ _ _ _ _ _ (omega (arith, loop.0, c.in-None.ensures.steps.1.0)) loop.1
