-- `row_check::rows_pass` meets its contract: the answer from a state of zeros is that from the start (`from_start` of
-- PassLaws).
use Rattle.row_check.specs.Walking.{before_with}
use Rattle.row_check.proofs.PassLaws.{from_start}
use Rattle.row_check.proofs.rows_pass.Goals as goal

pub returns : goal.returns
returns c =
    let a = c.args in
    from_start (before_with a.next a.before.now) a.count a.rows.now c.answer_from.ensures
