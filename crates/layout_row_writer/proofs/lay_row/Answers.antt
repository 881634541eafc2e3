-- `layout_row_writer::lay_row` meets its contract: the bytes before the value, zeros, and the value copied over the
-- first of them (`tail_copied` of Writers in `codec`) are those of the row (`row_whole` of WholeLaws).
use native.Mathlib.Omega.{arith}
use Rattle.codec.proofs.Writers.{tail_copied}
use Rattle.layout_row_writer.proofs.WholeLaws.{row_whole}
use Rattle.layout_row_writer.proofs.lay_row.Goals as goal

pub returns : goal.returns
returns c =
    let a = c.args in
    let l = c.put_zeros.new.out in
    row_whole a.w a.sort a.depth a.index a.serial a.value.now (omega arith) c.requires.1 c.lay_head.ensures
    c.put_zeros.ensures
    (tail_copied l _ a.value.now 10 (omega arith) c.copy.ensures.1)
