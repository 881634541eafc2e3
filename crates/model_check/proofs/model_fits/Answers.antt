-- `model_check::model_fits` meets its contract. The loop's invariant: the walk from particle i on, with depth d
-- allowed, decides the model.
use mathlib.Core.Bool.{not}
use Rattle.model_check.specs.Particles.{particle_record_at, particles_read}
use Rattle.model_check.proofs.ModelLaws.{stands_depth, walks_on, walks_off, walks_end, walks_model}
use mathlib.Core.Path.{refl, sym, ◌∙◌, ap}
use Prim.Native.Nat.{◌+◌}
use native.Mathlib.Omega.{arith}
use lib.ListN.{drop}
use Rattle.model_check.proofs.Reading.{particles_from_lem, particles_end}
use Rattle.model_check.proofs.model_fits.Goals as goal

pub loop-i-init : goal.loop-i-init
loop-i-init c = refl

pub returns-then-not-particle_stands : goal.returns-then-not-particle_stands
returns-then-not-particle_stands c =
    let a = c.args in
    sym
    (walks_off a.n c.loop-i.d (particles_from_lem c.loop-i.i a.m a.parts.now (omega arith)) c.particle_stands.ensures
    (ap not c.if-not-particle_stands.true))
    ∙ c.loop-i.invariant ∙ walks_model a.n (particles_read a.m a.parts.now)

pub overflow_add-d : goal.overflow_add-d
overflow_add-d c =
    let a = c.args in
    omega (
      arith,
      c.particle_depth_at-d.ensures,
      stands_depth a.n c.loop-i.d (particle_record_at c.loop-i.i a.parts.now)
          (drop (c.loop-i.i + 1) (particles_read a.m a.parts.now)) c.particle_stands.ensures (ap not c.if-not-particle_stands.false),
    )

pub loop-i-preserved : goal.loop-i-preserved
loop-i-preserved c =
    let a = c.args in
    walks_on a.n c.loop-i.d (particles_from_lem c.loop-i.i a.m a.parts.now (omega arith))
    c.particle_stands.ensures (ap not c.if-not-particle_stands.false) c.particle_depth_at-d.ensures ∙ c.loop-i.invariant

pub returns : goal.returns
returns c =
    let a = c.args in
    sym (walks_end a.n c.loop-i.d (particles_end c.loop-i.i a.m a.parts.now (omega arith))) ∙ c.loop-i.invariant
    ∙ walks_model a.n (particles_read a.m a.parts.now)
