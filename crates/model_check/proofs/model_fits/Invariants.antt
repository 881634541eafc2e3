use Rattle.model_check.specs.Particles.{particles_read, walks}
use mathlib.Core.Path.{◌≡◌}
use lib.ListN.{drop}
use Rattle.model_check.proofs.model_fits.Given as goal

abbrev pub invariant-loop-i : goal.invariant-loop-i
invariant-loop-i l = walks l.n l.d (drop l.i (particles_read l.m l.parts)) ≡ walks l.n 0 (particles_read l.m l.parts)
