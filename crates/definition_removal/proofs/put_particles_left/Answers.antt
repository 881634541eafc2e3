-- `definition_removal::put_particles_left` meets its contract: the particles before the model of definition i and those
-- after it are what `destroyed` leaves (`models_laid` of LeftBytes); counts and places are in range by `encoded` of
-- Encoded in `store_laws` and by the length of a record (`records_short`, `particle_short` of Again).
use Rattle.definition_removal.proofs.LeftBytes.{models_laid}
use Rattle.definition_removal.proofs.Again.{records_short, particle_short}
use Rattle.store_laws.proofs.Encoded.{encoded}
use Rattle.definition_removal.specs.Bodies.{particle_record, lowered}
use Rattle.rules.specs.Layout.{particle_size}
use native.Mathlib.Omega.{arith}
use Prim.Native.Nat.{suc}
use Rattle.definition_removal.proofs.put_particles_left.Goals as goal

pub put_particles-next-requires : goal.put_particles-next-requires
put_particles-next-requires c =
    let x = encoded c.args.store.now c.requires.0.good in
    omega (arith, c.requires.0.there, c.requires.1, x.definitions, x.few_definitions, c.model_range-own.ensures.first.most, x.particles, x.few_particles)

pub put_particles-requires : goal.put_particles-requires
put_particles-requires c =
    let x = encoded c.args.store.now c.requires.0.good in
    let g = lowered (suc c.args.i) 1 in
    omega (
      arith,
      c.requires.0.there,
      c.requires.1,
      x.definitions,
      x.few_definitions,
      c.model_range-own.ensures.first.most,
      c.particle_count.ensures.value,
      x.particles,
      x.few_particles,
      c.put_particles-next.ensures.next,
      records_short (particle_record g) particle_size (λ rec k. particle_short g rec) c.model_range-own.result.start c.particles_of-body.result.now,
    )

pub returns : goal.returns
returns c =
    let a = c.args in
    models_laid a.store.now c.requires.0.good a.i c.requires.0.there c.particles_of-body.ensures c.particle_count.ensures
    c.model_range-own.ensures
    c.particles_from.ensures c.put_particles-next.ensures c.put_particles.ensures
