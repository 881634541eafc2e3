-- `walk_writer::walker::Walker::step` meets its contract: a row below one that is taken gives no row and leaves open what is
-- open (`step_gone` of StepLaws); else the filling that it closes, if due, and then what `come` writes are what comes of
-- it (`step_on`), with the head that was read (`seen`).
use Rattle.walk_writer.specs.Going.{fill_by}
use Rattle.walk_writer.proofs.StepLaws.{seen, step_gone, step_on}
use Rattle.walk_writer.proofs.walker.Walker.step.Goals as goal

pub returns-then-gone : goal.returns-then-gone
returns-then-gone c =
    let a = c.args in
    let p = a.self.now.plan.now in
    let fill = fill_by a.self.now in
    step_gone p a.self.now.text.now fill a.o _ a.row.now (seen c.requires.0 c.read_head-h.ensures) _
    c.gone.ensures c.if-gone.true

pub returns : goal.returns
returns c =
    let a = c.args in
    let p = a.self.now.plan.now in
    let fill = fill_by a.self.now in
    step_on p a.self.now.text.now fill a.o _ a.row.now (seen c.requires.0 c.read_head-h.ensures) _
    c.gone.ensures c.if-gone.false _ c.closes.ensures _ c.unwrap_or-depth.ensures _ c.closed-q.ensures
    c.put_owed.ensures c.come.ensures
