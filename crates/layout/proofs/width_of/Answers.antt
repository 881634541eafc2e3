-- The only code that knows which width a version has.
use mathlib.Core.Path.{refl}
use Rattle.rules.specs.Layout.{value_width}
use Rattle.layout.proofs.width_of.Goals as goal

pub returns : goal.returns
unfolding value_width
returns c = refl
