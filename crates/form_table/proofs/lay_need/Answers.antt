-- `form_table::lay_need` meets its contract by a law of TableLaws for each return: no row of the attribute must be
-- there (`need_other`), its owner is no definition of the form (`need_past`), or it is put into its owner's set
-- (`need_put`).
use mathlib.Core.Path.{ap}
use mathlib.Core.Bool.{not}
use native.Mathlib.Omega.{arith}
use Rattle.form_index.proofs.ReadingLaws.{needs_read}
use Rattle.form_table.proofs.TableLaws.{need_other, need_past, need_put}
use Rattle.form_table.proofs.lay_need.Goals as goal

pub returns-then-not-must_be_present : goal.returns-then-not-must_be_present
returns-then-not-must_be_present c =
    let a = c.args in
    let found = c.attribute_at-record.ensures in
    let owner = c.attribute_owner-i in
    let code = c.attribute_sort in
    let sort = c.from-sort in
    let present = c.must_be_present in
    need_other a.form.now a.j a.table.now owner.result present.result
    (λ i. needs_read a.form.now.width _ a.form.now.attributes.now a.j found a.form.now.version i _ _ _ _ owner.ensures code.ensures sort.ensures present.ensures) (ap not c.if-not-must_be_present.true)

pub returns-then-i-form : goal.returns-then-i-form
returns-then-i-form c =
    let a = c.args in
    let found = c.attribute_at-record.ensures in
    let owner = c.attribute_owner-i in
    let code = c.attribute_sort in
    let sort = c.from-sort in
    let present = c.must_be_present in
    need_past a.form.now a.j a.table.now owner.result present.result
    (λ i. needs_read a.form.now.width _ a.form.now.attributes.now a.j found a.form.now.version i _ _ _ _ owner.ensures code.ensures sort.ensures present.ensures) (omega arith)

pub returns : goal.returns
returns c =
    let a = c.args in
    let found = c.attribute_at-record.ensures in
    let owner = c.attribute_owner-i in
    let code = c.attribute_sort in
    let sort = c.from-sort in
    let present = c.must_be_present in
    need_put a.form.now a.j a.table.now owner.result present.result
    (λ i. needs_read a.form.now.width _ a.form.now.attributes.now a.j found a.form.now.version i _ _ _ _ owner.ensures code.ensures sort.ensures present.ensures)
    _ c.with.ensures (ap not c.if-not-must_be_present.false) (omega arith) c.requires.0.definitions c.requires.2
