use mathlib.Core.Path.{◌≡◌}
use Rattle.rules.specs.Layout.{particle_size}
use Rattle.place_marks.proofs.WriteLaws.{Marking}
use Rattle.place_marks.proofs.mark.Given as goal

-- marking the elements of the particles that are left completes the marks of all
abbrev pub invariant-loop-particle : goal.invariant-loop-particle
invariant-loop-particle l = (l.particle-iterator.size ≡ particle_size) × Marking l.value l.particles l.initial.marks l.particle-iterator.rest.now l.marks
