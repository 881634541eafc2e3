-- `lookup::row_start` meets its contract: `shape_of` gives the shape of the store, so that `rows_start` gives the place
-- where its rows begin (`begins` of Laws).
use Rattle.lookup.proofs.Laws.{begins}
use Rattle.lookup.proofs.row_start.Goals as goal

pub returns : goal.returns
returns c = begins _ _ _ c.shape_of.ensures c.rows_start.ensures
