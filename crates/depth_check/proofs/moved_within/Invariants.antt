use mathlib.Core.Path.{◌≡◌}
use mathlib.Core.Bool.{true}
use Rattle.rules.specs.Layout.{particle_size}
use Rattle.model.specs.Members.{particles_of}
use Rattle.model_writer.specs.PartAfter.{moved}
use Rattle.model_writer.specs.Writing.{shift, depths_within}
use Rattle.model_writer.proofs.Ceiling.{Deepening}
use Rattle.depth_check.proofs.moved_within.Given as goal

-- with their first m members one deeper, the particles that are left stay within the ceiling if and only if all do
abbrev pub invariant-loop-particle : goal.invariant-loop-particle
invariant-loop-particle l =
    (l.particle-iterator.size ≡ particle_size)
    × Deepening (depths_within (moved (shift true) l.d l.n (particles_of l.ys))) l.d l.particle-iterator.rest.now l.m
