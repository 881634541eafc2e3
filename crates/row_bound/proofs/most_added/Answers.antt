-- `row_bound::most_added` meets its contract: nothing is added where the plan fills nothing (`bounds_none` of
-- BoundLaws) or a filling has no row (`bounds_empty`), else at most the rows of one filling at each place
-- (`bounds_places`).
use borrow.Author.Tests.{not-true}
use Rattle.row_bound.proofs.BoundLaws.{bounds_none, bounds_empty, bounds_places}
use Rattle.row_bound.proofs.most_added.Goals as goal

pub returns-then-not-plan : goal.returns-then-not-plan
returns-then-not-plan c = let a = c.args in
    bounds_none a.form.now a.rows.now a.count a.plan a.text.now c.requires.1
    (not-true c.args.plan.fills c.if-not-plan.true)

pub returns-then-one-eq0 : goal.returns-then-one-eq0
returns-then-one-eq0 c = let a = c.args in
    bounds_empty a.form.now a.rows.now a.count a.plan a.text.now c.requires.1
    c.filling_rows-one.ensures.0 c.if-one-eq0.true

pub returns : goal.returns
returns c =
    let a = c.args in
    let counted = c.filling_rows-one.ensures in
    bounds_places a.form.now a.rows.now a.count a.plan a.text.now c.requires.1
    counted.0 c.if-one-eq0.false counted.1 c.places.ensures
