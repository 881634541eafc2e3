-- `walk_writer::walker::Walker::come` meets its contract: a row that is taken gives no row (`came_taken` of StepLaws); else the
-- filling, if it comes before the row, and then the row itself are what comes of it (`came_kept`), and `kept` gives
-- what is open after it (`due_ended`, `kept_due`).
use mathlib.Core.Path.{◌∙◌}
use mathlib.Core.Bool.{not, ◌&&◌}
use Rattle.row_walk.specs.Walk.{is_below, is_later}
use Rattle.row_walk.specs.Step.{valueless}
use Rattle.walk_writer.specs.Going.{fill_by}
use Rattle.walk_writer.proofs.StepLaws.{came_taken, came_kept, due_ended, kept_due}
use Rattle.walk_writer.proofs.walker.Walker.come.Goals as goal

pub returns-then-is_taken : goal.returns-then-is_taken
returns-then-is_taken c =
    let a = c.args in
    let p = a.self.now.plan.now in
    let fill = fill_by a.self.now in
    came_taken p a.self.now.text.now fill a.o a.h a.row.now c.requires.0 _ c.is_taken.ensures c.if-is_taken.true
    _ c.taken.ensures

pub returns : goal.returns
returns c =
    let a = c.args in
    let p = a.self.now.plan.now in
    let fill = fill_by a.self.now in
    let x = valueless a.h in
    let due = (λ j. a.o.due && not (c.ends_due.ensures j)) ∙ due_ended a.o.due (is_below a.o x) (is_later p.marks p.later x.row) in
    came_kept p a.self.now.text.now fill a.o a.h a.row.now c.requires.0 _ c.is_taken.ensures c.if-is_taken.false _
    c.is_filled-filled.ensures c.put_owed.ensures c.put_row.ensures _ (kept_due p a.o a.h c.kept.ensures due)
