-- `planned_rows::walk_rows` meets its contract: what is read is the store's (`reads_of` of WalkLaws), so that `walk`
-- may be called (`walk_ready`, `walk_asked`, `walk_whole`, `walk_room`), and the rows that it writes are those after
-- the plan (`walk_from`).
use Rattle.planned_rows.proofs.WalkLaws.{reads_of, walk_ready, walk_asked, walk_whole, walk_room, walk_from_lem}
use Rattle.planned_rows.proofs.walk_rows.Goals as goal

pub walk-requires : goal.walk-requires
walk-requires c =
    let q = c.requires.0 in
    let x = reads_of c.form_of-form.ensures c.rows_of-rows.ensures c.row_count-count.ensures in
    (walk_ready q x c.requires.1 c.requires.2, walk_asked q x, walk_whole q x, walk_room c.form_of-form.ensures.sized.width c.requires.3 c.next_serial.ensures)

pub returns : goal.returns
returns c =
    let x = reads_of c.form_of-form.ensures c.rows_of-rows.ensures c.row_count-count.ensures in
    walk_from_lem c.requires.0 x c.args.plan c.args.text.now c.next_serial.ensures c.walk.ensures
