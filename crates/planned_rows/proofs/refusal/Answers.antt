-- `planned_rows::refusal` meets its contract: if the most that the plan adds is within the limits, so are its rows
-- (`refusal_spared` of RefusalLaws); else, where `most_added` gave the number of rows of the filling (`one_of`), the
-- contract of `filled_refusal` is this one, and where it gave none, the walk counts all rows (`refusal_counted`).
use Rattle.lookup.specs.Bodies.{bodies_of}
use Rattle.planned_rows.specs.Planned.{rows_after}
use mathlib.Core.Path.{sym, ◌∙◌}
use Rattle.store_limits.proofs.GivenLaws.{given_ok}
use Rattle.row_bound.proofs.BoundLaws.{one_of}
use Rattle.planned_rows.proofs.RefusalLaws.{refusal_spared, refusal_counted}
use Rattle.planned_rows.proofs.refusal.Goals as goal

pub returns-then-is_ok : goal.returns-then-is_ok
returns-then-is_ok c =
    let a = c.args in
    refusal_spared c.width_in-w.ensures a.form a.room (rows_after a.plan a.text.now (bodies_of a.store.now))
    c.row_count-count.ensures c.next_serial-next.ensures c.most_added-most.ensures.adds c.limit.ensures
    (given_ok c.limit.result (sym c.is_ok.ensures.value ∙ c.if-is_ok.true))

pub filled_refusal-requires : goal.filled_refusal-requires
filled_refusal-requires c =
    let one = one_of c.in-Some.is c.most_added-most.ensures in
    (c.requires.0, c.requires.1, c.requires.2, c.requires.3, one.0, one.1)

pub returns-in-Some : goal.returns-in-Some
returns-in-Some c = c.filled_refusal.ensures

pub returns : goal.returns
returns c =
    let a = c.args in
    refusal_counted c.width_in-w.ensures a.form a.room
    (rows_after a.plan a.text.now (bodies_of a.store.now))
    c.walk_rows-counted.ensures c.limit-2.ensures
