-- `form_check::owners_rise` meets its contract. The loop's invariant: the owners from i on rise from `least` on if
-- and only if all rise.
use mathlib.Core.Path.{refl, sym, ◌∙◌}
use native.Mathlib.Omega.{arith}
use Rattle.form_check.proofs.Reading.{attributes_from_lem, attributes_end}
use Rattle.form_check.proofs.Laws.{owners_on, owners_off, owners_end}
use Rattle.form_check.proofs.owners_rise.Goals as goal

pub loop-i-init : goal.loop-i-init
loop-i-init c = refl

pub returns-then-o-least : goal.returns-then-o-least
returns-then-o-least c =
    let f = c.args.form.now in
    sym (owners_off c.loop-i.least (attributes_from_lem f.width c.loop-i.i f.attribute_count f.attributes.now (omega arith))
    c.attribute_owner-o.ensures c.if-o-least.true) ∙ c.loop-i.invariant

pub loop-i-preserved : goal.loop-i-preserved
loop-i-preserved c =
    let f = c.args.form.now in
    owners_on c.loop-i.least (attributes_from_lem f.width c.loop-i.i f.attribute_count f.attributes.now (omega arith)) c.attribute_owner-o.ensures c.if-o-least.false ∙ c.loop-i.invariant

pub returns : goal.returns
returns c =
    let f = c.args.form.now in
    sym (owners_end c.loop-i.least (attributes_end f.width c.loop-i.i f.attribute_count f.attributes.now (omega arith))) ∙ c.loop-i.invariant
