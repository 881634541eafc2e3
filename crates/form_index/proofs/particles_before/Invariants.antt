use Rattle.form_index.proofs.ReadingLaws.{Summed}
use Rattle.form_index.proofs.particles_before.Given as goal

-- The loop's invariant: `sum` particles belong to the first j definitions.
abbrev pub invariant-loop-j : goal.invariant-loop-j
invariant-loop-j l = Summed l.defs l.sum l.j
