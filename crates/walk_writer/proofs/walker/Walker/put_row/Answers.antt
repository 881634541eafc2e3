-- `walk_writer::walker::Walker::put_row` meets its contract: the old row with the index after the change, and with the text or
-- with its own value by what `is_valued` answers, is the row that is kept (`row_kept` of StepLaws).
use mathlib.Core.Path.{sym, ◌∙◌}
use mathlib.Core.Bool.{true, false}
use Rattle.walk_writer.proofs.StepLaws.{row_kept}
use Rattle.walk_writer.proofs.walker.Walker.put_row.Goals as goal

pub returns-then-is_valued : goal.returns-then-is_valued
returns-then-is_valued c =
    let a = c.args in
    row_kept a.self.now.plan.now a.self.now.text.now a.h a.row.now c.requires.0 _ c.moved_index-index.ensures.0
    true (sym c.if-is_valued.true ∙ c.is_valued.ensures) c.put_valued.ensures

pub returns : goal.returns
returns c =
    let a = c.args in
    row_kept a.self.now.plan.now a.self.now.text.now a.h a.row.now c.requires.0 _ c.moved_index-index.ensures.0
    false (sym c.if-is_valued.false ∙ c.is_valued.ensures) c.put_kept.ensures
