-- `depth_check::moved_within` meets its contract: the answer is true where no further particle moves (`deep_stop` of
-- Ceiling), false where one of depth 4 or more moves (`deep_over`), and true where no particle is left (`deep_done`).
-- Any other particle keeps the invariant (`deep_step`).
use mathlib.Core.Path.{sym, ap, ◌∙◌}
use native.Mathlib.Omega.{arith}
use lib.Dec.{ltb}
use Rattle.model.proofs.ChunkLaws.{front}
use Rattle.model_writer.proofs.Ceiling.{deep_all, deep_done, deep_stop, deep_over, deep_step}
use Rattle.depth_check.proofs.moved_within.Goals as goal

pub loop-particle-init : goal.loop-particle-init
loop-particle-init c =
    let new = c.chunks_exact-particle-items.ensures in
    rw c.into_iter-particle-iterator.ensures.into_iter_gives (new.size, rw new.rest (deep_all _ _ _ c.requires))

pub returns-then-m-inner : goal.returns-then-m-inner
returns-then-m-inner c =
    let loop = c.loop-particle.invariant in
    let step = c.in-Some.ensures.steps in
    let first = front _ _ _ step.1.0 (step.1.1 ∙ loop.0) in
    deep_stop loop.1 first _ (ap (ltb c.args.d) (sym c.particle_depth-depth.ensures)) c.if-m-inner.true

pub returns-then-depth-ge4 : goal.returns-then-depth-ge4
returns-then-depth-ge4 c =
    let loop = c.loop-particle.invariant in
    let step = c.in-Some.ensures.steps in
    let first = front _ _ _ step.1.0 (step.1.1 ∙ loop.0) in
    deep_over loop.1 first _ (ap (ltb c.args.d) (sym c.particle_depth-depth.ensures)) c.if-m-inner.false (omega (arith, c.particle_depth-depth.ensures))

pub loop-particle-preserved : goal.loop-particle-preserved
loop-particle-preserved c =
    let loop = c.loop-particle.invariant in
    let step = c.in-Some.ensures.steps in
    let first = front _ _ _ step.1.0 (step.1.1 ∙ loop.0) in (
      step.0 ∙ loop.0,
      deep_step loop.1 first _ (ap (ltb c.args.d) (sym c.particle_depth-depth.ensures)) c.if-m-inner.false (omega (arith, c.particle_depth-depth.ensures))
          c.left-m.ensures,
    )

pub returns : goal.returns
returns c =
    let loop = c.loop-particle.invariant in
    deep_done loop.1 (omega (arith, loop.0, c.in-None.ensures.steps.1.0))
