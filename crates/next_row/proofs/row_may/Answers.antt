-- `next_row::row_may` meets its contract: a row that is no attribute's may not come where an attribute is owed
-- (`row_owed` of RowLaws), and else as a child (`row_child`); the table says which attributes are needed
-- (`freed_read`).
use mathlib.Core.Path.{sym, ◌∙◌}
use Rattle.rules.specs.Decode.{read_row}
use Rattle.form_index.specs.Reading.{index_form_of}
use Rattle.next_row.proofs.RowLaws.{row_owed, row_child, freed_read}
use Rattle.next_row.proofs.row_may.Goals as goal

pub returns-then-not-is_freed : goal.returns-then-not-is_freed
returns-then-not-is_freed c =
    let a = c.args in
    row_owed (index_form_of a.t.now.form) a.e (read_row a.row.now).row (sym c.is_of.ensures ∙ c.if-is_of.false) _
    (freed_read a.t.now.form a.e.index _ c.needed-needed.ensures a.t.now.tabled.few.attributes a.e.seen _ c.is_freed.ensures)
    c.if-not-is_freed.true

pub returns : goal.returns
returns c =
    let a = c.args in
    row_child (index_form_of a.t.now.form) a.e (read_row a.row.now).row (sym c.is_of.ensures ∙ c.if-is_of.false) _ _
    (freed_read a.t.now.form a.e.index _ c.needed-needed.ensures a.t.now.tabled.few.attributes a.e.seen _ c.is_freed.ensures)
    c.if-not-is_freed.false c.child_may.ensures
