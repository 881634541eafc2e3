-- `filling::put_filling` meets its contract: in each case of `what` the rows that are written are those of `fill_with`
-- (`nothing_filled`, `definition_filled`, `attribute_filled`, `particles_filled` of FillingLaws).
use native.Mathlib.Omega.{arith}
use Rattle.filling.proofs.FillingLaws.{sort_written, nothing_filled, definition_filled, attribute_filled, particles_filled, filled_definition, filled_attribute, filled_particles}
use Rattle.filling.proofs.put_filling.Goals as goal

pub put_definition-requires : goal.put_definition-requires
put_definition-requires c =
    let p = c.requires in (filled_definition c.args.what _ c.in-Definition.is p.0, p.1)

pub put_new-requires : goal.put_new-requires
put_new-requires c =
    let p = c.requires in
    let q = p.1 in (q.width, q.room, omega (arith, q.deep), filled_attribute c.args.what _ c.in-Attribute.is p.0, q.text)

pub put_members-requires : goal.put_members-requires
put_members-requires c =
    let p = c.requires in
    let (x, y) = filled_particles c.args.what _ _ _ c.in-Particles.is p.0 in (x, y, p.1)

pub returns-in-Nothing : goal.returns-in-Nothing
returns-in-Nothing c =
    let a = c.args in
    nothing_filled a.form.now a.what a.text.now a.depth c.in-Nothing.is

pub returns-in-Definition : goal.returns-in-Definition
returns-in-Definition c =
    let a = c.args in
    definition_filled a.form.now a.what a.text.now a.depth _ c.in-Definition.is c.put_definition.ensures

pub returns-in-Attribute : goal.returns-in-Attribute
returns-in-Attribute c =
    let a = c.args in
    attribute_filled a.form.now a.what a.text.now a.depth _ c.in-Attribute.is (sort_written c.from.ensures c.put_new.ensures)

pub returns-in-Particles : goal.returns-in-Particles
returns-in-Particles c =
    let a = c.args in
    particles_filled a.form.now a.what a.text.now a.depth _ _ _ c.in-Particles.is c.put_members.ensures
