-- `attribute_writer::put_dropped` meets its contract: the form up to attribute i and the form from attribute i + 1 on,
-- laid one after the other, are the form without attribute i (`dropped_laid` of Laws); the places are in range by their
-- lengths (`before_small`, `rest_small` of FormParts).
use native.Mathlib.Omega.{arith}
use Rattle.lookup.specs.Bodies.{bodies_of}
use Rattle.attribute_form.proofs.FormParts.{before_small, rest_small}
use Rattle.attribute_writer.proofs.Laws.{dropped_laid}
use Rattle.attribute_writer.proofs.put_dropped.Goals as goal

pub form_of-form-requires : goal.form_of-form-requires
form_of-form-requires c =
    c.requires.passes

pub place_of-place-requires : goal.place_of-place-requires
place_of-place-requires c =
    omega (arith, c.requires.small)

pub overflow_add-i : goal.overflow_add-i
overflow_add-i c =
    omega (arith, c.requires.small)

pub place_of-rest-requires : goal.place_of-rest-requires
place_of-rest-requires c =
    omega (arith, c.requires.small)

pub put-requires : goal.put-requires
put-requires c =
    let a = c.args in
    omega (
      arith,
      c.put-next.ensures.next,
      before_small a.store.now c.requires.passes c.form_of-form.ensures c.place_of-place.result c.first.ensures,
      rest_small a.store.now c.requires.passes c.form_of-form.ensures c.place_of-rest.result c.after.ensures,
    )

pub returns : goal.returns
returns c =
    dropped_laid (bodies_of c.args.store.now) c.args.i c.form_of-form.ensures c.place_of-place.ensures c.first.ensures
    c.put-next.ensures c.requires.inside c.place_of-rest.ensures c.after.ensures c.put.ensures
