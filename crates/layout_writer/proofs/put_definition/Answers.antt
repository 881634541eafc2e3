-- `layout_writer::put_definition` meets its contract: the name with its length, the kind and the number of particles,
-- laid one after the other, are `definition_bytes` (`definition_laid` of RecordLaws in `layout`); the places are in
-- range as the field of the name has 16 bytes (`length_field` of LayoutLaws in `rules`).
use native.Mathlib.Omega.{arith}
use Rattle.rules.proofs.LayoutLaws.{length_field}
use Rattle.layout.proofs.RecordLaws.{definition_laid}
use Rattle.layout_writer.proofs.put_definition.Goals as goal

pub put_u8-b-requires : goal.put_u8-b-requires
put_u8-b-requires c =
    omega (arith, c.put_value-a.ensures.next, length_field 16 c.args.name.now)

pub put_u16-requires : goal.put_u16-requires
put_u16-requires c =
    omega (arith, c.put_value-a.ensures.next, length_field 16 c.args.name.now, c.put_u8-b.ensures.next)

pub returns : goal.returns
returns c =
    definition_laid c.args.name.now c.args.kind c.args.particles c.put_value-a.ensures c.put_u8-b.ensures c.put_u16.ensures
