-- `form_check::bodies_fit` meets its contract. The four tests, in the order of the definition.
use Rattle.form_check.proofs.Laws.{bodies_by}
use Rattle.form_check.proofs.bodies_fit.Goals as goal

pub definitions_apart-requires : goal.definitions_apart-requires
definitions_apart-requires c =
    c.requires.1.definition_body

pub models_fit-requires : goal.models_fit-requires
models_fit-requires c =
    (c.requires.1.definition_body, c.requires.1.particle_body)

pub owners_rise-requires : goal.owners_rise-requires
owners_rise-requires c =
    (c.requires.0, c.requires.1.attribute_body)

pub attributes_apart-requires : goal.attributes_apart-requires
attributes_apart-requires c =
    (c.requires.0, c.requires.1.attribute_body)

pub returns : goal.returns
returns c =
    let a = c.args.form.now in
    bodies_by a.width a.definition_count a.definitions.now a.particle_count a.particles.now a.attribute_count a.attributes.now c.definitions_apart.ensures
    c.models_fit.ensures c.owners_rise.ensures c.attributes_apart.ensures
