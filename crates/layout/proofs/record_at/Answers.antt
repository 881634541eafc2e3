-- `layout::record_at` meets its contract: the window begins at the product of `times`, which is `size * i`, and has the
-- size of a record (`record_window` of LayoutLaws).
use Rattle.layout.proofs.LayoutLaws.{record_window}
use Rattle.layout.proofs.record_at.Goals as goal

pub returns : goal.returns
returns c = record_window _ _ _ _ _ c.times.ensures c.window.ensures
