-- `destroy_attribute_call::write_dropped` meets its contract: what `put_dropped` lays fits its buffer (`dropped_fits`,
-- `dropped_long` of Laws), `edit_form` may be called (`dropped_asks`), and its answer is that for `dropped`
-- (`dropped_answers`); there is an attribute, so the count less 1 is in range (`number_of_attributes` of CountLaws).
use native.Mathlib.Omega.{arith}
use lib.ListN.{length}
use Rattle.attribute_form.proofs.CountLaws.{number_of_attributes}
use Rattle.attribute_form.proofs.FormParts.{zeros_long}
use Rattle.destroy_attribute_call.proofs.Laws.{dropped_fits, dropped_long, dropped_asks, dropped_answers}
use Rattle.destroy_attribute_call.proofs.write_dropped.Goals as goal

pub destroying_plan-plan-requires : goal.destroying_plan-plan-requires
destroying_plan-plan-requires c =
    (c.requires.inside, c.requires.small)

pub slice_bounds-form-end : goal.slice_bounds-form-end
slice_bounds-form-end c =
    dropped_fits c.args.store.now c.args.attribute c.requires c.definition_count-d.ensures c.particle_count-p.ensures
    c.attribute_count-a.ensures c.destroying_plan-plan.ensures zeros_long
    c.put_dropped-length.ensures

pub slice_bounds-edit_form-end : goal.slice_bounds-edit_form-end
slice_bounds-edit_form-end c =
    dropped_long c.args.store.now c.args.attribute c.requires c.definition_count-d.ensures c.particle_count-p.ensures
    c.attribute_count-a.ensures c.destroying_plan-plan.ensures zeros_long
    c.put_dropped-length.ensures

pub overflow_sub-a : goal.overflow_sub-a
overflow_sub-a c =
    omega (arith, c.requires.inside, number_of_attributes c.args.store.now c.attribute_count-a.ensures)

pub edit_form-requires : goal.edit_form-requires
edit_form-requires c =
    dropped_asks c.args.store.now c.args.attribute c.requires c.definition_count-d.ensures c.particle_count-p.ensures
    c.attribute_count-a.ensures c.destroying_plan-plan.ensures zeros_long
    c.put_dropped-length.ensures

pub returns : goal.returns
returns c =
    dropped_answers c.args.store.now c.args.attribute c.requires c.definition_count-d.ensures c.particle_count-p.ensures
    c.attribute_count-a.ensures c.destroying_plan-plan.ensures zeros_long
    c.put_dropped-length.ensures (length c.args.out.now) c.edit_form.ensures
