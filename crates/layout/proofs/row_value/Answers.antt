-- `layout::row_value` meets its contract: the window from byte 10 on is as long as byte 8 says, and so is the value
-- that `read_row` reads (`window_by` of LayoutLaws).
use lib.ListN.{get_or}
use Rattle.layout.proofs.LayoutLaws.{window_by}
use Rattle.layout.proofs.row_value.Goals as goal

pub returns : goal.returns
returns c =
    let s = c.args.row.now in
    window_by s _ 10 _ _ (get_or s 8 0) c.byte.ensures c.wide.ensures c.window.ensures
