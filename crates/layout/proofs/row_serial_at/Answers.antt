-- `layout::row_serial_at` meets its contract: the four bytes read, 4 past the product of `times`, are the serial of
-- record i (`serial_placed` of LayoutLaws).
use Rattle.layout.proofs.LayoutLaws.{serial_placed}
use Rattle.layout.proofs.row_serial_at.Goals as goal

pub returns : goal.returns
returns c =
    let a = c.args in
    serial_placed a.w a.i _ a.rows.now c.times-start.ensures c.get_u32.ensures
