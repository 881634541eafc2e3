-- `text_scan::unescape` meets its contract: a place where no escape stands settles it (`undoing_fault` of UndoingLaws),
-- any other byte that is stored keeps the invariant (`undoing_on`), and at the end all is stored (`undoing_end`). No
-- place reaches past the end of the text (`undoing_inside`), so that the loop ends there.
use native.Mathlib.Omega.{arith}
use Rattle.text_scan.proofs.UndoingLaws.{undoing_inside, undoing_onward, undoing_on, undoing_fault, undoing_end}
use Rattle.text_scan.proofs.unescape.Goals as goal

pub returns-in_err-found : goal.returns-in_err-found
returns-in_err-found c =
    rw c.from_residual.ensures (undoing_fault _ c.loop-i.invariant (omega arith) c.in_err-found.ensures)

pub overflow_add-i : goal.overflow_add-i
overflow_add-i c = omega (arith, undoing_inside _ c.loop-i.invariant (omega arith) c.in_ok-found.ensures)

pub loop-i-smaller : goal.loop-i-smaller
loop-i-smaller c =
    omega (arith, undoing_inside _ c.loop-i.invariant (omega arith) c.in_ok-found.ensures, undoing_onward _ c.loop-i.invariant (omega arith) c.in_ok-found.ensures)

pub loop-i-preserved : goal.loop-i-preserved
loop-i-preserved c = undoing_on _ c.loop-i.invariant (omega arith) c.in_ok-found.ensures c.store.ensures

pub returns : goal.returns
returns c = undoing_end _ c.loop-i.invariant (omega arith)
