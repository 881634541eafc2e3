-- `row_writer::put_kept` meets its contract: where no row may be written any more the cursor stays (`written_stop` of
-- WrittenLaws), else the row that `put_row_moved` lays is written and keeps its serial (`old_written`).
use Rattle.row_writer.proofs.WrittenLaws.{written_stop, old_written}
use Rattle.row_writer.proofs.put_kept.Goals as goal

pub returns-then-c-eq0 : goal.returns-then-c-eq0
returns-then-c-eq0 c = written_stop c.if-c-eq0.true

pub returns : goal.returns
returns c =
    old_written c.if-c-eq0.false c.requires.2 c.put_row_moved-c.ensures
