-- `layout_row_writer::put_row_valued` meets its contract: what `put_row_index` writes, the four bytes of the serial and
-- what `put_row_end` writes are the row with the index and the value (`valued_laid` of RowLaws in `layout`); the
-- lengths are by `row_length_lem`, `after_index` and `part_length`.
use native.Mathlib.Omega.{arith}
use Rattle.layout.proofs.RowLaws.{row_length_lem, after_index, part_length, valued_laid}
use Rattle.layout_row_writer.proofs.put_row_valued.Goals as goal

pub put_row_index-a-requires : goal.put_row_index-a-requires
put_row_index-a-requires c =
    (omega arith, omega arith, omega (arith, row_length_lem c.requires.1))

pub slice_bounds-put-end : goal.slice_bounds-put-end
slice_bounds-put-end c =
    omega (arith, row_length_lem c.requires.1)

pub put-b-requires : goal.put-b-requires
put-b-requires c =
    omega (arith, after_index c.requires.1 c.args.index c.put_row_index-a.ensures, part_length c.requires.1 4 4 (omega arith))

pub put_row_end-requires : goal.put_row_end-requires
put_row_end-requires c = (
  c.requires.0,
  omega (
    arith,
    c.put-b.ensures.next,
    after_index c.requires.1 c.args.index c.put_row_index-a.ensures,
    part_length c.requires.1 4 4 (omega arith),
  ),
  omega arith,
)

pub returns : goal.returns
returns c =
    valued_laid c.requires.1 c.args.index c.put_row_index-a.ensures c.args.value.now c.put-b.ensures c.put_row_end.ensures
