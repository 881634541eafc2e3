-- `document_tokens::attribute_token` meets its contract: what was read is the token (`attribute_told` of TellLaws),
-- within the text (`attribute_room`); else there is no such attribute (`attribute_unplaced`), or it has no value
-- (`attribute_unquoted`).
use native.Mathlib.Omega.{arith}
use Rattle.document_tokens.proofs.TellLaws.{attribute_unplaced, attribute_unquoted, attribute_room, attribute_told}
use Rattle.document_tokens.proofs.attribute_token.Goals as goal

pub returns-in_err-index : goal.returns-in_err-index
returns-in_err-index c =
    let a = c.args in
    rw c.from_residual.ensures
    (attribute_unplaced a.form.now a.w a.o a.text.now c.after-rest.ensures c.name_length-n.ensures c.first.ensures a.value.now c.in_err-index.ensures)

pub returns-in_err-read : goal.returns-in_err-read
returns-in_err-read c =
    let a = c.args in
    rw c.from_residual-in_err-read.ensures
    (attribute_unquoted a.form.now a.w a.o a.text.now c.after-rest.ensures c.name_length-n.ensures c.first.ensures c.after.ensures c.in_err-read.ensures)

pub overflow_add-result : goal.overflow_add-result
overflow_add-result c =
    let a = c.args in
    omega (
      arith,
      attribute_room a.form.now a.w a.o a.text.now c.after-rest.ensures c.name_length-n.ensures c.first.ensures c.after.ensures c.in_ok-read.ensures,
      c.well_formed.1.1.1.0.0,
    )

pub overflow_add-result-2 : goal.overflow_add-result-2
overflow_add-result-2 c =
    let a = c.args in
    omega (
      arith,
      attribute_room a.form.now a.w a.o a.text.now c.after-rest.ensures c.name_length-n.ensures c.first.ensures c.after.ensures c.in_ok-read.ensures,
      c.well_formed.1.1.1.0.0,
    )

pub returns : goal.returns
returns c =
    let a = c.args in
    attribute_told a.form.now a.w a.o a.text.now c.after-rest.ensures c.name_length-n.ensures c.first.ensures c.after.ensures c.in_ok-read.ensures
    c.in_ok-index.ensures
