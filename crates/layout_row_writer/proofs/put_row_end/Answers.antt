-- `layout_row_writer::put_row_end` meets its contract: the value's length, a zero, the value and the zeros up to the
-- end, laid one after the other (`laid_then`, `laid_as` of Writers in `codec`), are `row_end` (`end_is` of RowLaws in
-- `layout`).
use Rattle.layout.proofs.RowLaws.{end_is}
use native.Mathlib.Omega.{arith}
use Rattle.codec.proofs.Writers.{laid_as, laid_then}
use Rattle.layout_row_writer.proofs.put_row_end.Goals as goal

pub put_zeros-requires : goal.put_zeros-requires
put_zeros-requires c =
    omega (arith, c.put-c.ensures.next)

pub returns : goal.returns
returns c =
    let a = c.args in
    laid_as (end_is a.w a.value.now (omega arith))
    (laid_then (laid_then (laid_then c.put_u8-a.ensures c.put_u8-b.ensures) c.put-c.ensures) c.put_zeros.ensures)
