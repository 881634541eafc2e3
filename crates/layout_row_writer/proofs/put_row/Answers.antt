-- `layout_row_writer::put_row` meets its contract: where the row has room, `lay_row` writes it over the part that is
-- lent (`row_lent` of WholeLaws). Else what `put_row_start` writes, eight bytes long (`after_start` of RowLaws in
-- `layout`), and what `put_row_end` writes after it are the bytes of the row (`row_laid`).
use native.Mathlib.Omega.{arith}
use Rattle.layout.specs.RowBytes.{row_of}
use Rattle.layout.proofs.RowLaws.{after_start, row_laid}
use Rattle.layout_row_writer.proofs.WholeLaws.{row_lent}
use Rattle.layout_row_writer.proofs.put_row.Goals as goal

pub returns-then-end-out : goal.returns-then-end-out
returns-then-end-out c =
    let a = c.args in
    row_lent a.w a.at (row_of a.sort a.depth a.index a.serial a.value.now) a.out.now _ (omega arith) c.lay_row.ensures

pub put_row_end-requires : goal.put_row_end-requires
put_row_end-requires c =
    (c.requires.0, omega (arith, after_start _ _ _ _ c.put_row_start-next.ensures), omega arith)

pub returns : goal.returns
returns c =
    row_laid c.put_row_start-next.ensures c.put_row_end.ensures
