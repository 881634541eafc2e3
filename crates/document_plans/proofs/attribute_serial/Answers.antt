-- `document_plans::attribute_serial` meets its contract: as neither refusal 6 nor 7 applies, the element has a row
-- (`not_missing` of RowFacts) and the attribute is of its definition (`same_row_lem` of AttributeRefusals), so that the
-- serial read right below that row is `attribute_serial` (`serial_is`).
use mathlib.Core.Path.{refl}
use Rattle.store_check.proofs.StoreFacts.{Whole, whole}
use Rattle.document_rows.proofs.ElementFacts.{element_there}
use Rattle.document_rows.proofs.RowFacts.{row_of, not_missing}
use Rattle.attribute_row_refusals.proofs.AttributeRefusals.{both, known_of, same_row_lem, serial_is}
use Rattle.document_plans.proofs.attribute_serial.Goals as goal

pub returns-in_err-i : goal.returns-in_err-i
returns-in_err-i c =
    let w : Whole c.args.store.now = whole _ c.requires.0 in
    not_missing _ w (both _ w c.args.attribute c.requires.1 refl).1 c.in_err-i.ensures

pub attribute_row_serial-requires : goal.attribute_row_serial-requires
attribute_row_serial-requires c = row_of _ (whole _ c.requires.0) c.in_ok-i.ensures

pub returns : goal.returns
returns c =
    let a = c.args in
    let w : Whole a.store.now = whole _ c.requires.0 in
    let y = known_of _ w a.attribute c.requires.1 refl in
    let f = element_there _ w _ c.in_ok-i.ensures in
    serial_is _ w a.attribute y.owned y.at f (same_row_lem _ w a.attribute y f) c.attribute_row_serial.ensures
