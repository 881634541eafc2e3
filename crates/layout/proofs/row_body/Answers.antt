-- `layout::row_body` meets its contract: the window begins where `rows_start` says and is as long as the product of
-- `times` says, and so is `row_body` (`rows_window` of LayoutLaws).
use Rattle.layout.proofs.LayoutLaws.{rows_window}
use Rattle.layout.proofs.row_body.Goals as goal

pub returns : goal.returns
returns c =
    let a = c.args in
    rows_window a.s a.store.now _ _ _ c.rows_start-start.ensures c.times.ensures c.window.ensures
