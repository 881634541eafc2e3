-- `serial_check::sought` meets its contract: the walk meets a row with the serial (`seek_meets` of TreeLaws), or comes
-- to an empty place (`seek_ends`), or goes on with the row that stands there (`seek_starts`, `seek_on`), whose number
-- `Rising` bounds.
use mathlib.Core.Path.{sym, ◌∙◌}
use native.Mathlib.Omega.{arith}
use Rattle.serial_check.specs.Trees.{place_below}
use Rattle.serial_check.proofs.TreeLaws.{seek_starts, seek_meets, seek_ends, seek_on}
use Rattle.serial_check.proofs.sought.Goals as goal

pub loop-from-init : goal.loop-from-init
loop-from-init c = seek_starts _ _ _ _ _ (omega arith) (omega arith)

pub returns-then-serial_at-s : goal.returns-then-serial_at-s
returns-then-serial_at-s c =
    seek_meets c.loop-from.invariant (sym c.serial_at.ensures ∙ c.if-serial_at-s.true)

pub returns-then-h-eq0 : goal.returns-then-h-eq0
returns-then-h-eq0 c =
    seek_ends c.loop-from.invariant (λ e. c.if-serial_at-s.false (c.serial_at.ensures ∙ e)) (omega arith) c.if-h-eq0.true

pub overflow_cast-j-in-loop-from : goal.overflow_cast-j-in-loop-from
overflow_cast-j-in-loop-from c =
    omega (arith, c.requires.2.low (place_below c.loop-from.j c.loop-from.rest))

pub loop-from-smaller : goal.loop-from-smaller
loop-from-smaller c =
    omega (arith, c.requires.2.up (place_below c.loop-from.j c.loop-from.rest) (omega arith))

pub loop-from-preserved : goal.loop-from-preserved
loop-from-preserved c =
    seek_on c.loop-from.invariant (λ e. c.if-serial_at-s.false (c.serial_at.ensures ∙ e)) c.requires.2 c.if-h-eq0.false
