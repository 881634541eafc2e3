-- `form_check::models_fit` meets its contract. The loop's invariant: the models from definition i on, in the
-- particles from `at` on, fit if and only if all do.
use mathlib.Core.Bool.{not}
use mathlib.Core.Path.{refl, sym, ◌∙◌, ap}
use native.Mathlib.Omega.{arith}
use Rattle.model_check.specs.Particles.{particles_read}
use Rattle.form_check.proofs.Reading.{definitions_from_lem, definitions_end}
use Rattle.model_check.proofs.Reading.{particles_length}
use Rattle.form_check.proofs.ModelsLaws.{part_fits, models_short, models_off, models_on, models_end}
use Rattle.form_check.proofs.models_fit.Goals as goal

pub loop-i-init : goal.loop-i-init
loop-i-init c = (omega arith, refl)

pub definition_particles_at-size-requires : goal.definition_particles_at-size-requires
definition_particles_at-size-requires c = omega arith

pub overflow_sub-form : goal.overflow_sub-form
overflow_sub-form c = omega arith

pub returns-then-form-at : goal.returns-then-form-at
returns-then-form-at c =
    let a = c.args.form.now in
    let l = c.loop-i in
    let ps = particles_read a.particle_count a.particles.now in
    sym (models_short a.definition_count a.particle_count l.at ps (particles_length a.particle_count a.particles.now) (definitions_from_lem l.i a.definition_count a.definitions.now (omega arith))
    c.definition_particles_at-size.ensures c.if-form-at.true) ∙ l.invariant.1

pub particles_part-requires : goal.particles_part-requires
particles_part-requires c = (omega arith, omega arith)

pub model_fits-requires : goal.model_fits-requires
model_fits-requires c = omega arith

pub returns-then-not-model_fits : goal.returns-then-not-model_fits
returns-then-not-model_fits c =
    let a = c.args.form.now in
    let l = c.loop-i in
    let k = c.definition_particles_at-size.result in
    let ps = particles_read a.particle_count a.particles.now in
    let fits = part_fits a.definition_count l.at k a.particle_count a.particles.now c.particles_part.ensures c.model_fits.ensures (omega arith)
    c.requires.1.whole in
    sym (models_off a.definition_count a.particle_count l.at ps (particles_length a.particle_count a.particles.now) (definitions_from_lem l.i a.definition_count a.definitions.now (omega arith))
    c.definition_particles_at-size.ensures c.if-form-at.false fits (ap not c.if-not-model_fits.true)) ∙ l.invariant.1

pub overflow_add-at : goal.overflow_add-at
overflow_add-at c = omega arith

pub loop-i-preserved : goal.loop-i-preserved
loop-i-preserved c =
    let a = c.args.form.now in
    let l = c.loop-i in
    let k = c.definition_particles_at-size.result in
    let ps = particles_read a.particle_count a.particles.now in
    let fits = part_fits a.definition_count l.at k a.particle_count a.particles.now c.particles_part.ensures c.model_fits.ensures (omega arith)
    c.requires.1.whole in (
      omega arith,
      models_on a.definition_count a.particle_count l.at ps (particles_length a.particle_count a.particles.now) (definitions_from_lem l.i a.definition_count a.definitions.now (omega arith))
          c.definition_particles_at-size.ensures c.if-form-at.false fits (ap not c.if-not-model_fits.false) ∙ l.invariant.1,
    )

pub returns : goal.returns
returns c =
    let a = c.args.form.now in
    let l = c.loop-i in
    sym
    (models_end a.definition_count a.particle_count l.at (particles_read a.particle_count a.particles.now) (particles_length a.particle_count a.particles.now) (omega arith)
    (definitions_end l.i a.definition_count a.definitions.now (omega arith)))
    ∙ l.invariant.1
