-- `next_row::rows_end` meets its contract: an attribute is owed (`rows_owed` of RowLaws), or the children decide
-- (`rows_freed`); the table says which attributes are needed (`freed_read`).
use Rattle.form_index.specs.Reading.{index_form_of}
use Rattle.next_row.proofs.RowLaws.{rows_owed, rows_freed, freed_read}
use Rattle.next_row.proofs.rows_end.Goals as goal

pub returns-then-not-is_freed : goal.returns-then-not-is_freed
returns-then-not-is_freed c =
    let a = c.args in
    rows_owed (index_form_of a.t.now.form) a.e _
    (freed_read a.t.now.form a.e.index _ c.needed.ensures a.t.now.tabled.few.attributes a.e.seen _ c.is_freed.ensures)
    c.if-not-is_freed.true

pub returns : goal.returns
returns c =
    let a = c.args in
    rows_freed (index_form_of a.t.now.form) a.e _
    (freed_read a.t.now.form a.e.index _ c.needed.ensures a.t.now.tabled.few.attributes a.e.seen _ c.is_freed.ensures)
    c.if-not-is_freed.false _ c.children_end.ensures
