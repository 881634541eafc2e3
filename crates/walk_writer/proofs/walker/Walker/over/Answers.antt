-- `walk_writer::walker::Walker::over` meets its contract: the invariant gives it where no row may be written any more
-- (`going_stop` of WalkLaws), and past the last row by the filling still due (`going_end`).
use native.Mathlib.Omega.{arith}
use Rattle.walk_writer.proofs.WalkLaws.{going_stop, going_end}
use Rattle.walk_writer.proofs.walker.Walker.over.Goals as goal

pub returns-then-c-eq0 : goal.returns-then-c-eq0
returns-then-c-eq0 c =
    going_stop c.loop-m.invariant c.if-c-eq0.true

pub returns : goal.returns
returns c =
    going_end c.loop-m.invariant (omega arith) _ c.unwrap_or-depth.ensures c.put_owed.ensures
