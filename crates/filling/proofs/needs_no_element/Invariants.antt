use mathlib.Core.Path.{◌≡◌}
use Rattle.rules.specs.Layout.{particle_size}
use Rattle.filling.specs.Parts.{no_element_needed}
use Rattle.filling.proofs.needs_no_element.Given as goal

-- the particles before those that are left are none that must be there, and end no members of depth d, so that s needs
-- one if these do
abbrev pub invariant-loop-particle : goal.invariant-loop-particle
invariant-loop-particle l =
    (l.particle-iterator.size ≡ particle_size) × (no_element_needed l.d l.s ≡ no_element_needed l.d l.particle-iterator.rest.now)
