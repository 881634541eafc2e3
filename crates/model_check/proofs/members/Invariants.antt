use Rattle.model_check.specs.Particles.{particles_read, count_beside}
use mathlib.Core.Path.{◌≡◌}
use Prim.Native.Nat.{◌+◌, ◌≤◌}
use lib.ListN.{drop}
use Rattle.model_check.proofs.members.Given as goal

abbrev pub invariant-loop-j : goal.invariant-loop-j
invariant-loop-j l = (l.count ≤ l.j) × (l.count + count_beside l.k (drop l.j (particles_read l.m l.parts)) ≡ count_beside l.k (drop l.from (particles_read l.m l.parts)))
