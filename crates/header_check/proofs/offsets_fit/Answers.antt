-- `header_check::offsets_fit` meets its contract: the four offsets are compared with the places that the string's
-- counts give (`offsets_of` of CodeLaws in `records`).
use Rattle.records.proofs.CodeLaws.{offsets_of}
use Rattle.header_check.proofs.offsets_fit.Goals as goal

pub returns : goal.returns
returns c =
    let a = c.args in
    offsets_of a.w a.store.now _ _ _ c.definition_count-n.ensures.value c.particle_count-p.ensures.value
    c.attribute_count.ensures.value
    c.through_definitions.ensures c.through_definitions-at_particles.ensures c.through_particles-at_attributes.ensures c.through_attributes-at_rows.ensures
    _ _ _ _ c.definition_offset-definitions.ensures.value c.particle_offset-particles.ensures.value
    c.attribute_offset-attributes.ensures.value c.row_offset-rows.ensures.value
