-- `layout_writer::put_value` meets its contract: the byte of the length, then the field, are what is to be laid
-- (`value_laid` of RecordLaws in `layout`); the length fits in a byte as the width is below 256.
use Rattle.layout.proofs.RecordLaws.{value_laid}
use Rattle.layout_writer.proofs.put_value.Goals as goal

pub returns : goal.returns
returns c =
    value_laid c.args.width c.args.s.now c.put_u8-next.ensures c.put_field.ensures
