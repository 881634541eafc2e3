-- `walk_writer::walk` meets its contract: the filling of `filling_with_rows` stands for that of the plan, so that the
-- walk with it writes the same rows (`walked_settled` of SettledLaws; `written_as` of WrittenLaws in `row_writer`).
use Rattle.rules.specs.Layout.{row_size}
use Rattle.rules.specs.Decode.{read_row, read_many}
use Rattle.row_writer.proofs.WrittenLaws.{written_as}
use Rattle.walk_writer.proofs.SettledLaws.{walked_settled}
use Rattle.walk_writer.proofs.walk.Goals as goal

pub returns : goal.returns
returns c =
    let a = c.args in
    let rows = read_many read_row (row_size a.form.now.width) a.count a.rows.now in
    written_as (walked_settled a.plan c.filling_with_rows-filling.ensures rows) c.over.ensures
