-- `definition_removal::put_attributes_left` meets its contract: the attributes before those of definition i and those
-- after them are what `destroyed` leaves (`attributes_laid` of LeftBytes); counts and places are in range by `encoded`
-- of Encoded in `store_laws` and by the length of a record (`records_short`, `attribute_short` of Again).
use Rattle.definition_removal.proofs.LeftBytes.{attributes_laid}
use Rattle.definition_removal.proofs.Again.{records_short, attribute_short}
use Rattle.store_laws.proofs.Encoded.{encoded}
use Rattle.definition_removal.specs.Bodies.{attribute_record, lowered}
use Rattle.rules.specs.Layout.{attribute_size}
use native.Mathlib.Omega.{arith}
use Prim.Native.Nat.{suc}
use Rattle.definition_removal.proofs.put_attributes_left.Goals as goal

pub put_attributes-next-requires : goal.put_attributes-next-requires
put_attributes-next-requires c =
    let x = encoded c.args.store.now c.requires.0.good in (
      c.width_in-w.ensures.small,
      omega (arith, c.requires.0.there, x.definitions, x.few_definitions),
      omega (arith, c.attribute_range-own.ensures.first.most, x.attributes, x.few_attributes),
      omega (arith, c.requires.1),
    )

pub put_attributes-requires : goal.put_attributes-requires
put_attributes-requires c =
    let x = encoded c.args.store.now c.requires.0.good in
    let g = lowered (suc c.args.i) 1 in
    let w = c.width_in-w.result in (
      c.width_in-w.ensures.small,
      omega (arith, c.requires.0.there, x.definitions, x.few_definitions),
      omega (arith, c.attribute_count.ensures.value, x.attributes, x.few_attributes),
      omega (
        arith,
        c.requires.1,
        c.attribute_range-own.ensures.first.most,
        x.attributes,
        x.few_attributes,
        c.put_attributes-next.ensures.next,
        records_short (attribute_record g) (attribute_size w) (λ rec k. attribute_short g w rec c.width_in-w.ensures.small k) c.attribute_range-own.result.start
            c.attributes_of-body.result.now,
      ),
    )

pub returns : goal.returns
returns c =
    let a = c.args in
    attributes_laid a.store.now c.requires.0.good a.i c.requires.0.there c.width_in-w.ensures c.attributes_of-body.ensures
    c.attribute_count.ensures c.attribute_range-own.ensures
    c.attributes_from.ensures c.put_attributes-next.ensures c.put_attributes.ensures
