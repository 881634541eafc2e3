-- `plan_writer::put_edited` meets its contract: the rows are written behind the place of header and form, then these
-- (`edited_laid` of EditedLaws); the place is in range by `form_short` of FormBytesLaws, the count and the next serial,
-- those of the rows (`count_is`, `serial_is`), by `limit_within` of WithinLaws.
use native.Mathlib.Omega.{arith}
use Rattle.layout.proofs.LayoutLaws.{width_within}
use Rattle.store_laws.proofs.StoreLaws.{holds}
use Rattle.store_limits.proofs.WithinLaws.{limit_within}
use Rattle.store_laws.proofs.FormBytesLaws.{form_short}
use Rattle.plan_writer.proofs.EditedLaws.{heads_of, count_is, serial_is, edited_laid}
use Rattle.plan_writer.proofs.put_edited.Goals as goal

pub walk_rows-written-requires : goal.walk_rows-written-requires
walk_rows-written-requires c = (c.requires.0, c.requires.1, c.requires.2, omega (arith, c.header_size.ensures, form_short c.requires.3 (width_within c.args.store.now)))

pub put_form-requires : goal.put_form-requires
put_form-requires c =
    let a = c.args in
    let h = holds a.store.now c.requires.0 in
    let within = limit_within _ _ _ _ _ c.requires.4 in
    let walked = c.walk_rows-written.ensures in
    let serial = serial_is h c.requires.3 a.plan a.text.now within walked in
    let count = count_is h c.requires.3 a.plan a.text.now within walked in (
      c.width_in-w.ensures.small,
      heads_of c.requires.3 (width_within a.store.now) (omega (arith, serial, within.serials)) (omega (arith, count, within.rows)),
    )

pub returns : goal.returns
returns c =
    let a = c.args in
    let h = holds a.store.now c.requires.0 in
    let within = limit_within _ _ _ _ _ c.requires.4 in
    let walked = c.walk_rows-written.ensures in
    edited_laid h c.requires.3 a.plan a.text.now within walked (omega (arith, c.header_size.ensures)) c.width_in-w.ensures c.put_form.ensures
