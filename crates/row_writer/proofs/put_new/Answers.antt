-- `row_writer::put_new` meets its contract: where no row may be written any more the cursor stays (`written_stop` of
-- WrittenLaws), else the row that `put_row` lays is written with the cursor's serial (`new_written`).
use Rattle.row_writer.proofs.WrittenLaws.{written_stop, new_written}
use Rattle.row_writer.proofs.put_new.Goals as goal

pub returns-then-c-eq0 : goal.returns-then-c-eq0
returns-then-c-eq0 c = written_stop c.if-c-eq0.true

pub returns : goal.returns
returns c =
    new_written c.if-c-eq0.false c.put_row-c.ensures
