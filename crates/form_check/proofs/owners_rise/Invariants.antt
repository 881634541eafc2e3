use mathlib.Core.Path.{◌≡◌}
use lib.ListN.{drop}
use Rattle.form_check.specs.FormTests.{owners_rise}
use Rattle.form_check.specs.Bodies.{attributes_of}
use Rattle.form_check.proofs.owners_rise.Given as goal

abbrev pub invariant-loop-i : goal.invariant-loop-i
invariant-loop-i l = owners_rise l.least (drop l.i (attributes_of l.form)) ≡ owners_rise 0 (attributes_of l.form)
