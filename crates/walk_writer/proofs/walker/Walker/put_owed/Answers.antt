-- `walk_writer::walker::Walker::put_owed` meets its contract: if the filling is not due, no row is written (`owed_none` of
-- StepLaws).
use Rattle.walk_writer.proofs.StepLaws.{owed_none}
use Rattle.walk_writer.proofs.walker.Walker.put_owed.Goals as goal

pub returns-else-due : goal.returns-else-due
returns-else-due c = owed_none _ c.if-due.false
