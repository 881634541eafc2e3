-- `model_writer::put_moved` meets its contract: where no further particle moves the rest is copied (`going_rest` of
-- WritingLaws). Else the first gets another depth, which is a byte (`going_fits`), and the invariant is kept
-- (`along_on`, `going_step`). At the end nothing is left to write (`going_done`).
use mathlib.Core.Path.{sym, ap, ◌∙◌}
use Prim.Native.Nat.{◌-◌}
use native.Mathlib.Omega.{arith}
use lib.Dec.{ltb}
use Rattle.codec.proofs.Writers.{tail_seen, laid_as}
use Rattle.model.proofs.ChunkLaws.{front}
use Rattle.model_writer.proofs.WritingLaws.{going_all, going_done, going_rest, going_fits, going_step, along_all, along_on}
use Rattle.model_writer.proofs.put_moved.Goals as goal

pub loop-particle-init : goal.loop-particle-init
loop-particle-init c =
    let new = c.chunks_exact-particle-items.ensures in
    rw c.into_iter-particle-iterator.ensures.into_iter_gives
    (new.size, rw new.rest (along_all _ _), rw new.rest (going_all _ _ _ _ _ _ _ c.requires.0 c.requires.1 c.requires.2))

pub overflow_sub-at : goal.overflow_sub-at
overflow_sub-at c = c.loop-particle.invariant.1.from

pub put-requires : goal.put-requires
put-requires c = omega (arith, c.loop-particle.invariant.2.room)

pub returns-then-m-inner : goal.returns-then-m-inner
returns-then-m-inner c =
    let loop = c.loop-particle.invariant in
    let step = c.in-Some.ensures.steps in
    let first = front _ _ _ step.1.0 (step.1.1 ∙ loop.0) in
    going_rest loop.2 first _ (ap (ltb c.args.d) (sym c.particle_depth.ensures)) c.if-m-inner.true
    (laid_as (loop.1.rest ∙ sym (tail_seen c.args.s.now (c.loop-particle.at - c.args.start))) c.put.ensures)

pub put_shifted-at-requires : goal.put_shifted-at-requires
put_shifted-at-requires c =
    let loop = c.loop-particle.invariant in
    let step = c.in-Some.ensures.steps in
    let first = front _ _ _ step.1.0 (step.1.1 ∙ loop.0) in (
      going_fits loop.2 first _ (ap (ltb c.args.d) (sym c.particle_depth.ensures)) c.if-m-inner.false,
      omega (arith, loop.2.room),
    )

pub loop-particle-preserved : goal.loop-particle-preserved
loop-particle-preserved c =
    let loop = c.loop-particle.invariant in
    let step = c.in-Some.ensures.steps in
    let first = front _ _ _ step.1.0 (step.1.1 ∙ loop.0) in
    let deep = ap (ltb c.args.d) (sym c.particle_depth.ensures) in (
      step.0 ∙ loop.0,
      along_on loop.2 first _ deep loop.1 c.put_shifted-at.ensures.next,
      going_step loop.2 first _ deep c.if-m-inner.false c.left-m.ensures c.put_shifted-at.auto.out c.put_shifted-at.ensures,
    )

pub returns : goal.returns
returns c =
    let loop = c.loop-particle.invariant in
    going_done loop.2 (omega (arith, loop.0, c.in-None.ensures.steps.1.0))
