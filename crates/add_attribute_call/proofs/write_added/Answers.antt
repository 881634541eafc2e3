-- `add_attribute_call::write_added` meets its contract: from 64 attributes on one more is past the ceiling, 16
-- (`added_full` of Laws); else what `put_added` lays fits its buffer (`added_fits`, `added_long`), `edit_form` may be
-- called (`added_asks`), and its answer is that for `added` (`added_answers`).
use native.Mathlib.Omega.{arith}
use borrow.Author.Tests.{leb-true, leb-false}
use mathlib.Core.Path.{sym, ◌∙◌}
use lib.ListN.{length}
use Rattle.rules.specs.Layout.{sort_code}
use Rattle.attribute_form.proofs.CountLaws.{number_of_attributes}
use Rattle.attribute_form.proofs.FormParts.{zeros_long}
use Rattle.add_attribute_call.proofs.Laws.{added_full, added_fits, added_long, added_asks, added_answers}
use Rattle.add_attribute_call.proofs.write_added.Goals as goal

pub returns-then-attributes_full : goal.returns-then-attributes_full
returns-then-attributes_full c =
    added_full c.args.store.now c.args.owner c.args.name.now (sort_code c.args.sort) c.args.value.now c.requires (length c.args.out.now)
    c.attribute_count-a.ensures
    (leb-true 64 c.attribute_count-a.result (sym c.attributes_full.ensures ∙ c.if-attributes_full.true))

pub put_added-length-requires : goal.put_added-length-requires
put_added-length-requires c =
    let few = leb-false 64 c.attribute_count-a.result (sym c.attributes_full.ensures ∙ c.if-attributes_full.false) in (
      c.requires,
      c.attributes_to-i.ensures.most,
      omega (arith, few, c.attributes_to-i.ensures.most, number_of_attributes c.args.store.now c.attribute_count-a.ensures),
    )

pub slice_bounds-form-end : goal.slice_bounds-form-end
slice_bounds-form-end c =
    let few = leb-false 64 c.attribute_count-a.result (sym c.attributes_full.ensures ∙ c.if-attributes_full.false) in
    added_fits c.args.store.now c.args.owner c.args.name.now (sort_code c.args.sort) c.args.value.now c.requires
    c.definition_count-d.ensures c.particle_count-p.ensures c.attribute_count-a.ensures few
    c.attributes_to-i.ensures c.adding_plan-plan.ensures zeros_long c.put_added-length.ensures

pub slice_bounds-edit_form-end : goal.slice_bounds-edit_form-end
slice_bounds-edit_form-end c =
    let few = leb-false 64 c.attribute_count-a.result (sym c.attributes_full.ensures ∙ c.if-attributes_full.false) in
    added_long c.args.store.now c.args.owner c.args.name.now (sort_code c.args.sort) c.args.value.now c.requires
    c.definition_count-d.ensures c.particle_count-p.ensures c.attribute_count-a.ensures few
    c.attributes_to-i.ensures c.adding_plan-plan.ensures zeros_long c.put_added-length.ensures

pub edit_form-requires : goal.edit_form-requires
edit_form-requires c =
    let few = leb-false 64 c.attribute_count-a.result (sym c.attributes_full.ensures ∙ c.if-attributes_full.false) in
    added_asks c.args.store.now c.args.owner c.args.name.now (sort_code c.args.sort) c.args.value.now c.requires
    c.definition_count-d.ensures c.particle_count-p.ensures c.attribute_count-a.ensures few
    c.attributes_to-i.ensures c.adding_plan-plan.ensures zeros_long c.put_added-length.ensures

pub returns : goal.returns
returns c =
    let few = leb-false 64 c.attribute_count-a.result (sym c.attributes_full.ensures ∙ c.if-attributes_full.false) in
    added_answers c.args.store.now c.args.owner c.args.name.now (sort_code c.args.sort) c.args.value.now c.requires
    c.definition_count-d.ensures c.particle_count-p.ensures c.attribute_count-a.ensures few
    c.attributes_to-i.ensures c.adding_plan-plan.ensures zeros_long
    c.put_added-length.ensures (length c.args.out.now)
    c.edit_form.ensures
