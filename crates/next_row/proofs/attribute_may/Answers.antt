-- `next_row::attribute_may` meets its contract: below the attributes that may not come any more and past the last there
-- is none, and else the attribute's owner, its value and the attributes passed over decide (`attribute_comes` of
-- RowLaws, by `owner_read` of ReadingLaws in `form_index`, `value_read` and `spares_read` of RowLaws).
use Rattle.form_index.specs.Reading.{index_form_of}
use Rattle.rules.specs.Decode.{read_row}
use Rattle.form_index.proofs.ReadingLaws.{owner_read}
use Rattle.next_row.proofs.RowLaws.{attribute_comes, value_read, spares_read}
use native.Mathlib.Omega.{arith}
use Rattle.next_row.proofs.attribute_may.Goals as goal

pub returns : goal.returns
returns c =
    let a = c.args in
    let form = a.t.now.form in
    let j = c.row_index-j in
    attribute_comes (index_form_of form) a.i a.seen (read_row a.row.now).row j.result j.ensures
    c.if-seen-eq0.false (omega arith) (omega arith) _ _ _
    (owner_read form.width _ form.attributes.now j.result c.attribute_at.ensures _ c.attribute_owner-owner.ensures)
    (value_read (index_form_of form) j.result a.row.now _ _ c.row_value-v.ensures c.value_may.ensures)
    (spares_read form a.i a.needed c.requires a.t.now.tabled.few.attributes _ _ _ (omega arith) c.spares.ensures)
