-- `attribute_writer::put_added` meets its contract: the form up to attribute i, the new attribute and the rest of the
-- form, laid one after the other, are the form with it (`added_laid`, `wide_attribute` of Laws); the places are in
-- range by their lengths (`before_small`, `rest_small` of FormParts, `length_attribute` of LayoutLaws).
use Prim.Native.Nat.{ℕ}
use mathlib.Core.Path.{sym, ap}
use native.Mathlib.Omega.{arith}
use Rattle.rules.specs.Layout.{attribute_bytes, sort_code}
use Rattle.rules.proofs.LayoutLaws.{length_attribute}
use Rattle.codec.proofs.Writers.{laid_as}
use Rattle.lookup.specs.Bodies.{bodies_of}
use Rattle.attribute_writer.specs.Attributes.{new_entry}
use Rattle.attribute_form.proofs.FormParts.{before_small, rest_small}
use Rattle.attribute_writer.proofs.Laws.{wide_attribute, added_laid}
use Rattle.attribute_writer.proofs.put_added.Goals as goal

pub form_of-form-requires : goal.form_of-form-requires
form_of-form-requires c =
    c.requires.0.passes

pub overflow_cast-owner : goal.overflow_cast-owner
overflow_cast-owner c =
    omega (arith, c.requires.0.owner)

pub put_attribute-second-requires : goal.put_attribute-second-requires
put_attribute-second-requires c =
    let x = c.requires.0 in (
      c.width_in-w.ensures.small,
      x.short,
      omega (arith, x.few, c.width_in-w.ensures.value),
      omega (
        arith,
        c.put-first.ensures.next,
        before_small c.args.store.now x.passes c.form_of-form.ensures c.place_of-place.result c.first.ensures,
      ),
    )

pub put-requires : goal.put-requires
put-requires c =
    let a = c.args in
    let x = c.requires.0 in
    omega (
      arith,
      c.put-first.ensures.next,
      c.put_attribute-second.ensures.next,
      before_small a.store.now x.passes c.form_of-form.ensures c.place_of-place.result c.first.ensures,
      length_attribute c.width_in-w.result (new_entry a.owner a.name.now c.from-code.result a.value.now),
      c.width_in-w.ensures.small,
      rest_small a.store.now x.passes c.form_of-form.ensures c.place_of-place.result c.after.ensures,
    )

pub returns : goal.returns
returns c =
    let a = c.args in
    let entry = new_entry a.owner a.name.now (sort_code a.sort) a.value.now in
    let laid = laid_as (ap (λ (k : ℕ). attribute_bytes c.width_in-w.result (new_entry a.owner a.name.now k a.value.now)) (sym c.from-code.ensures)) c.put_attribute-second.ensures in
    added_laid (bodies_of a.store.now) a.i c.form_of-form.ensures c.place_of-place.ensures c.first.ensures c.put-first.ensures c.requires.1
    entry c.after.ensures (wide_attribute c.width_in-w.ensures entry laid) c.put.ensures
