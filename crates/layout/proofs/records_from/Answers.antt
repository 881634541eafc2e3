-- `layout::records_from` meets its contract: the window from the product of `times` on, as long as s, is all that
-- stands from there on (`records_rest` of RecordLaws).
use Rattle.layout.proofs.RecordLaws.{records_rest}
use Rattle.layout.proofs.records_from.Goals as goal

pub returns : goal.returns
returns c =
    records_rest c.args.s.now _ c.args.size c.args.i c.times.result c.times.ensures c.window.ensures
