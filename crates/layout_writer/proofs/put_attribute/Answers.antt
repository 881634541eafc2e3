-- `layout_writer::put_attribute` meets its contract: the owner, the name with its length, the sort and the value with
-- its length, laid one after the other, are `attribute_bytes` (`attribute_laid` of RecordLaws in `layout`); the places
-- are in range as the field of the name has 16 bytes (`length_field` of LayoutLaws in `rules`).
use native.Mathlib.Omega.{arith}
use Rattle.rules.proofs.LayoutLaws.{length_field}
use Rattle.layout.proofs.RecordLaws.{attribute_laid}
use Rattle.layout_writer.proofs.put_attribute.Goals as goal

pub put_u8-c-requires : goal.put_u8-c-requires
put_u8-c-requires c =
    omega (arith, c.put_u8-a.ensures.next, c.put_value-b.ensures.next, length_field 16 c.args.name.now)

pub put_value-requires : goal.put_value-requires
put_value-requires c = (
  c.requires.0,
  c.requires.2,
  omega (
    arith,
    c.put_u8-a.ensures.next,
    c.put_value-b.ensures.next,
    c.put_u8-c.ensures.next,
    length_field 16 c.args.name.now,
  ),
)

pub returns : goal.returns
returns c =
    attribute_laid c.args.w c.args.owner c.args.name.now c.args.sort c.args.value.now c.put_u8-a.ensures
    c.put_value-b.ensures c.put_u8-c.ensures c.put_value.ensures
