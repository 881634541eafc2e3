-- `layout_row_writer::put_row_index` meets its contract: the first two bytes of the row, then the two of the index, are
-- what is to be laid (`laid_then` of Writers in `codec`); the row has at least two bytes, so that the first part has
-- two (`length-take-le` of lib.Seq).
use mathlib.Core.Path.{sym}
use native.Mathlib.Omega.{arith}
use Rattle.codec.proofs.Writers.{laid_then}
use lib.Seq.{length-take-le}
use Rattle.layout_row_writer.proofs.put_row_index.Goals as goal

pub slice_bounds-put-end : goal.slice_bounds-put-end
slice_bounds-put-end c =
    sym (length-take-le 2 c.args.row.now (omega arith))

pub put-a-requires : goal.put-a-requires
put-a-requires c =
    omega (arith, length-take-le 2 c.args.row.now (omega arith))

pub put_u16-requires : goal.put_u16-requires
put_u16-requires c =
    omega (arith, c.put-a.ensures.next, length-take-le 2 c.args.row.now (omega arith))

pub returns : goal.returns
returns c =
    laid_then c.put-a.ensures c.put_u16.ensures
