-- `planned_rows::most_added` meets its contract: what is read is the store's (`reads_of` of WalkLaws), so that
-- `row_bound::most_added` may be called (`walk_ready`, `walk_asked`, `walk_whole`, `rows_few`), and the rows that it
-- bounds are those after the plan (`rows_added`).
use Rattle.planned_rows.proofs.WalkLaws.{reads_of, walk_ready, walk_asked, walk_whole, rows_few, rows_added}
use Rattle.planned_rows.proofs.most_added.Goals as goal

pub most_added-requires : goal.most_added-requires
most_added-requires c =
    let q = c.requires.0 in
    let x = reads_of c.form_of-form.ensures c.rows_of-rows.ensures c.row_count-count.ensures in
    (walk_ready q x c.requires.1 c.requires.2, walk_asked q x, walk_whole q x, rows_few q x)

pub returns : goal.returns
returns c =
    let x = reads_of c.form_of-form.ensures c.rows_of-rows.ensures c.row_count-count.ensures in
    rows_added c.requires.0 x c.args.plan c.args.text.now c.most_added.ensures
