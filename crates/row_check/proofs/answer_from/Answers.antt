-- `row_check::answer_from` meets its contract: a walk that refuses gives the answer false (`answer_refused` of
-- PassLaws), and after one that does not `walk_ends` gives it (`answer_ended`).
use Rattle.row_check.proofs.PassLaws.{answer_refused, answer_ended}
use Rattle.row_check.proofs.answer_from.Goals as goal

pub returns-then-not-walk_rows : goal.returns-then-not-walk_rows
returns-then-not-walk_rows c = answer_refused c.walk_rows.ensures c.if-not-walk_rows.true

pub returns : goal.returns
returns c =
    answer_ended c.walk_rows.ensures c.if-not-walk_rows.false c.walk_ends.ensures
