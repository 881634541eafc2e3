-- `place_marks::mark_first` meets its contract: an element has the value stored at its index, and a group changes
-- nothing (`first_marks` of WriteLaws).
use mathlib.Core.Path.{◌∙◌}
use Rattle.place_marks.proofs.WriteLaws.{first_marks}
use Rattle.place_marks.proofs.mark_first.Goals as goal

pub returns-in-Element : goal.returns-in-Element
returns-in-Element c =
    let a = c.args in
    c.store.ensures ∙ first_marks a.value a.particle.now a.marks.now c.read_particle.ensures c.in-Element.is

pub returns-in_default : goal.returns-in_default
returns-in_default c =
    let a = c.args in
    first_marks a.value a.particle.now a.marks.now c.read_particle.ensures c.in_default.is
