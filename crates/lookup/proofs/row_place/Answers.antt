-- `lookup::row_place` meets its contract: the place where the rows begin and the product for the rows before row i add
-- up to its place, which is in range (`row_placed` of Laws).
use Rattle.lookup.proofs.Laws.{row_placed}
use Rattle.lookup.proofs.row_place.Goals as goal

pub returns : goal.returns
returns c =
    row_placed _ _ _ _ _ _ c.width_in-w.ensures c.row_size.ensures c.times-before.ensures c.row_start.ensures
