use mathlib.Core.Path.{◌≡◌}
use lib.ListN.{length}
use Rattle.rules.specs.Layout.{particle_size}
use Rattle.model.specs.Members.{particles_of}
use Rattle.model.specs.Places.{reach}
use Rattle.model.proofs.PlacesLaws.{Left}
use Rattle.place_lookup.proofs.reach.Given as goal

-- The loop's invariant: p particles are passed; m members further in those that are left is n members into s.
abbrev pub invariant-loop-particle : goal.invariant-loop-particle
invariant-loop-particle l =
    (l.particle-iterator.size ≡ particle_size)
    × Left (reach l.d l.n (particles_of l.s)) (length l.s) l.d l.particle-iterator.rest.now l.p l.m
