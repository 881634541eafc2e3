-- `layout_row_writer::put_row_start` meets its contract: the sort, the depth, the index and the serial's low four
-- bytes, laid one after the other (`laid_then`, `laid_as` of Writers in `codec`), are `row_start` (`start_is` of
-- RowLaws in `layout`).
use Rattle.layout.proofs.RowLaws.{start_is}
use Rattle.codec.proofs.Writers.{laid_as, laid_then}
use Rattle.layout_row_writer.proofs.put_row_start.Goals as goal

pub returns : goal.returns
returns c =
    let a = c.args in
    laid_as (start_is a.sort a.depth a.index a.serial)
    (laid_then (laid_then (laid_then c.put_u8-a.ensures c.put_u8-b.ensures) c.put_u16-c.ensures)
    c.put_u32.ensures)
