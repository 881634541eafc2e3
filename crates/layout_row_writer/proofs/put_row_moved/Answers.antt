-- `layout_row_writer::put_row_moved` meets its contract: with its own index the row is written whole (`kept_laid` of
-- RowLaws in `layout`); with another, what `put_row_index` writes and the row from byte 4 on are the row with that
-- index (`moved_laid`); the lengths are by `row_length_lem`, `after_index` and `part_length`.
use mathlib.Core.Path.{sym, ◌∙◌}
use native.Mathlib.Omega.{arith}
use Rattle.layout.proofs.RowLaws.{row_length_lem, after_index, part_length, kept_laid, moved_laid}
use Prim.Native.Nat.{◌+◌, ◌-◌}
use Rattle.layout_row_writer.proofs.put_row_moved.Goals as goal

pub returns-then-row_index-index : goal.returns-then-row_index-index
returns-then-row_index-index c =
    kept_laid c.requires.1 c.args.index (sym c.row_index.ensures ∙ c.if-row_index-index.true) c.put.ensures

pub put_row_index-next-requires : goal.put_row_index-next-requires
put_row_index-next-requires c =
    (omega arith, omega arith, omega (arith, row_length_lem c.requires.1))

pub slice_bounds-put-end : goal.slice_bounds-put-end
slice_bounds-put-end c =
    omega (arith, row_length_lem c.requires.1)

pub put-requires-2 : goal.put-requires-2
put-requires-2 c =
    omega (arith, after_index c.requires.1 c.args.index c.put_row_index-next.ensures, part_length c.requires.1 4 (12 + c.args.w - 4) (omega arith))

pub returns : goal.returns
returns c =
    moved_laid c.requires.1 c.args.index c.put_row_index-next.ensures c.put-2.ensures
