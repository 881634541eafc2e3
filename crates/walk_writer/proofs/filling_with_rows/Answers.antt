-- `walk_writer::filling_with_rows` meets its contract: a filling may stand for itself; `Nothing` stands for it where no
-- row of it was written though one might be, as it then has no rows (`settled_nothing` of SettledLaws).
use Rattle.walk_writer.proofs.SettledLaws.{settled_nothing}
use Rattle.walk_writer.proofs.filling_with_rows.Goals as goal

pub returns : goal.returns
returns c =
    settled_nothing c.args.what c.put_filling.ensures c.if-c-eq0.false
