-- `row_walk::is_plain` meets its contract: the return is `is_plain` but for the answers of the seven functions that are
-- called, which by their contracts are those that it joins, `ends_due` and `is_taken` at what `closed` leaves open
-- (`plain_by` of RowLaws).
use Rattle.row_walk.proofs.RowLaws.{plain_by_lem}
use Rattle.row_walk.proofs.is_plain.Goals as goal

pub returns : goal.returns
returns c =
    let a = c.args in
    let p = a.plan.now in
    plain_by_lem a.o a.h p _ c.closed-q.ensures _ _ _ _ _ _ c.closes.ensures c.ends_due.ensures
    c.moved_index.ensures.0 c.gone.ensures c.is_taken.ensures c.is_valued.ensures
