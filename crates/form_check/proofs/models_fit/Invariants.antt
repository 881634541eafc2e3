use mathlib.Core.Path.{◌≡◌}
use Prim.Native.Nat.{◌≤◌}
use lib.ListN.{drop}
use Rattle.form_check.specs.FormTests.{models_fit}
use Rattle.form_check.specs.Bodies.{definitions_of}
use Rattle.model_check.specs.Particles.{particles_read}
use Rattle.form_check.proofs.models_fit.Given as goal

abbrev pub invariant-loop-i : goal.invariant-loop-i
invariant-loop-i l =
    let n = l.form.definition_count in
    let particles = particles_read l.form.particle_count l.form.particles.now in
    (l.at ≤ l.form.particle_count)
    × (models_fit n (drop l.i (definitions_of l.form)) (drop l.at particles) ≡ models_fit n (definitions_of l.form) particles)
