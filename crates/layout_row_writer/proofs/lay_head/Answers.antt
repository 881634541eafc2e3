-- `layout_row_writer::lay_head` meets its contract: the ten bytes that are copied over the front are those before the
-- value (`front_laid` of WholeLaws).
use mathlib.Core.Path.{refl}
use native.Mathlib.Omega.{arith}
use Rattle.layout.specs.RowBytes.{row_start}
use Rattle.layout_row_writer.proofs.WholeLaws.{front_laid}
use Rattle.layout_row_writer.proofs.lay_head.Goals as goal

pub returns : goal.returns
unfolding row_start
returns c = front_laid _ c.args.row.now _ refl (omega arith) c.copy_from_slice.ensures.after
