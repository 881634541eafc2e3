-- `layout_writer::put_attribute_moved` meets its contract: the owner's byte, then the bytes of the record after its
-- first, are `owned_bytes`, as the record is no longer than that of an attribute (`owned_laid` of RecordLaws in
-- `layout`).
use native.Mathlib.Omega.{arith}
use Rattle.layout.proofs.RecordLaws.{owned_laid}
use Rattle.layout_writer.proofs.put_attribute_moved.Goals as goal

pub returns : goal.returns
returns c =
    let a = c.args in
    owned_laid a.w a.rec.now a.owner (omega arith) c.window.ensures c.put_u8-next.ensures c.put.ensures
