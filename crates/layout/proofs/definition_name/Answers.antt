-- `layout::definition_name` meets its contract: the window from byte 1 on is as long as byte 0 says, and so is the name
-- that `read_definition` reads (`window_by` of LayoutLaws).
use lib.ListN.{get_or}
use Rattle.layout.proofs.LayoutLaws.{window_by}
use Rattle.layout.proofs.definition_name.Goals as goal

pub returns : goal.returns
returns c =
    let s = c.args.rec.now in
    window_by s _ 1 _ _ (get_or s 0 0) c.byte.ensures c.wide.ensures c.window.ensures
