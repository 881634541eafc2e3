-- `layout_writer::put_field` meets its contract: the value, then the zeros up to the width (`laid_then`, `laid_as` of
-- Writers in `codec`), are `field` (`field_is` of RecordLaws in `layout`).
use Rattle.codec.proofs.Writers.{laid_as, laid_then}
use Rattle.layout.proofs.RecordLaws.{field_is}
use native.Mathlib.Omega.{arith}
use Rattle.layout_writer.proofs.put_field.Goals as goal

pub returns : goal.returns
returns c =
    let a = c.args in
    laid_as (field_is a.width a.s.now (omega arith)) (laid_then c.put-next.ensures c.put_zeros.ensures)
