-- `sets::contains` meets its contract: below 64 the test is the definition of `has`, and from 64 on nothing is in a set
-- of 64 digits (`has_past` of Laws).
use mathlib.Core.Path.{refl, sym}
use Rattle.sets.specs.Sets.{has}
use Rattle.sets.proofs.Laws.{has_past}
use Rattle.sets.proofs.contains.Goals as goal

pub returns-then-i-lt64 : goal.returns-then-i-lt64
unfolding has
returns-then-i-lt64 c = refl

pub returns-else-i-lt64 : goal.returns-else-i-lt64
returns-else-i-lt64 c = sym (has_past 64 c.args.s c.args.i c.ranges.s.fits c.if-i-lt64.false)
