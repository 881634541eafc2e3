-- `lookup::from_rows` meets its contract: the window from the first row on, as long as the string, is all that stands
-- from there on (`rows_from_lem` of Laws).
use Rattle.lookup.proofs.Laws.{rows_from_lem}
use Rattle.lookup.proofs.from_rows.Goals as goal

pub returns : goal.returns
returns c = rows_from_lem _ _ _ c.row_start-start.ensures c.window.ensures
