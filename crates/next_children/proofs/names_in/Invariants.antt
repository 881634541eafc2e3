use mathlib.Core.Path.{◌≡◌}
use Rattle.rules.specs.Layout.{particle_size}
use Rattle.next_children.proofs.NamesLaws.{Naming}
use Rattle.next_children.proofs.names_in.Given as goal

-- what is neither in the set nor in the particles that are left is not in the model
abbrev pub invariant-loop-particle : goal.invariant-loop-particle
invariant-loop-particle l = (l.particle-iterator.size ≡ particle_size) × Naming l.ms l.particle-iterator.rest.now l.names
