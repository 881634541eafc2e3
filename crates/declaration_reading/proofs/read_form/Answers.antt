-- `declaration_reading::read_form` meets its contract: what `within` tests of the counts is whether the form is within
-- the ceilings, and if it is not the answer is 0 (`form_refused` of FormLaws); else the header and the bodies are its
-- bytes (`form_read_lem`).
use Rattle.declaration_reading.proofs.FormLaws.{form_fits, counts_fit_lem, head_size, form_refused, form_read_lem}
use Rattle.declaration_reading.proofs.read_form.Goals as goal

pub returns-then-not-within : goal.returns-then-not-within
returns-then-not-within c =
    let a = c.args in
    form_refused a.version a.w a.text.now c.count_declarations-counts.ensures _ c.within.ensures c.if-not-within.true

pub put_head-head-requires : goal.put_head-head-requires
put_head-head-requires c =
    let fit = counts_fit_lem c.args.text.now c.count_declarations-counts.ensures _ c.within.ensures c.if-not-within.false in
    (c.requires, fit.0, fit.1, fit.2)

pub put_bodies-requires : goal.put_bodies-requires
put_bodies-requires c =
    let a = c.args in
    let counted = c.count_declarations-counts.ensures in (
      c.requires,
      form_fits a.text.now counted _ c.within.ensures c.if-not-within.false,
      counted.definitions_are,
      head_size a.version a.w _ _ _ c.put_head-head.ensures,
    )

pub returns : goal.returns
returns c =
    let a = c.args in
    form_read_lem a.version a.w a.text.now c.count_declarations-counts.ensures _ c.within.ensures c.if-not-within.false
    c.put_head-head.ensures c.put_bodies.ensures
