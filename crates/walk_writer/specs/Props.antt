-- That what a walk asks of the store, the plan and the text has one proof at most, as a ghost field's fact must.
use mathlib.Core.HLevel.{Unit-prop}
use Rattle.std.proofs.Props.{props}
use Rattle.filling.specs.declared.Filling.{Filling}
use Rattle.filling.specs.declared.Filling.TheVariants.{Nothing, Definition, Attribute, Particles}
use Rattle.filling.specs.Parts.{Indexed}

pub Indexed-prop : (what : Filling) → IsProp (Indexed what)
Indexed-prop Nothing = Unit-prop
Indexed-prop (Definition i) = hlevel props
Indexed-prop (Attribute j) = hlevel props
Indexed-prop (Particles g k e) = hlevel props

pub ruleset walk_props = (props, Indexed-prop)
