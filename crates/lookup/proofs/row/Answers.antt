-- `lookup::row` meets its contract: the window begins at the place of row i and has the size of a row at the store's
-- width (`row_window` of Laws).
use Rattle.lookup.proofs.Laws.{row_window}
use Rattle.lookup.proofs.row.Goals as goal

pub returns : goal.returns
returns c =
    row_window _ _ _ _ _ _ c.width_in-w.ensures c.row_size.ensures c.row_place-start.ensures c.window.ensures
