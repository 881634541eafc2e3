-- `attribute_form::place_of` meets its contract: the width and the counts that are read are the store's, so that the
-- place where attribute i begins, less the header, is its place in the form (`stands` of CountLaws); by the contract of
-- `through_attributes` that place is not below the header's size.
use native.Mathlib.Omega.{arith}
use Rattle.attribute_form.proofs.CountLaws.{stands}
use Rattle.attribute_form.proofs.place_of.Goals as goal

pub overflow_sub-result : goal.overflow_sub-result
overflow_sub-result c = omega (arith, c.through_attributes.ensures.value, c.header_size.ensures)

pub returns : goal.returns
returns c =
    stands c.args.store.now c.args.i c.width_in-w.ensures c.definition_count-definitions.ensures c.particle_count-particles.ensures
    c.through_attributes.ensures c.header_size.ensures
