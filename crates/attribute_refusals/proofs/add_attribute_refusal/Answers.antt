-- `attribute_refusals::add_attribute_refusal` meets its contract: the tests decide the six conditions of
-- `add_attribute` in their order, and each return is the number of the first that holds, 0 where none does (`add_2` to
-- `add_12`, `add_0` of AttributeLaws).
use mathlib.Core.Path.{ap, ◌∙◌}
use mathlib.Core.Bool.{not}
use native.Mathlib.Omega.{arith}
use Rattle.std.proofs.lemmas.Result.{err_from_is_err_and}
use Rattle.rules.specs.Given.{refusal_number}
use Rattle.store_check.proofs.StoreFacts.{whole, bad_text_lem, fine_text, past_definitions, within_definitions}
use Rattle.attribute_refusals.proofs.AttributeLaws.{add_2, add_3, add_4, add_5, add_6, add_12, add_0, default_as}
use Rattle.rules.proofs.Words.{test_is, not_is}
use Rattle.attribute_refusals.proofs.add_attribute_refusal.Goals as goal

pub returns-then-not-given_name : goal.returns-then-not-given_name
returns-then-not-given_name c =
    (add_2 _ (whole _ c.requires) _ _ _ _ (not_is c.given_name.ensures (ap not c.if-not-given_name.true))).is

pub returns-then-not-is_value : goal.returns-then-not-is_value
returns-then-not-is_value c =
    (add_3 _ (whole _ c.requires) _ _ _ _ (not_is c.given_name.ensures (ap not c.if-not-given_name.false))
    (bad_text_lem _ c.args.value.now c.width_in-w.ensures c.is_value.ensures (ap not c.if-not-is_value.true))).is

pub returns-in_err-sort : goal.returns-in_err-sort
returns-in_err-sort c =
    let a = c.args in
    let bad = c.in_err-sort.ensures in
    let p = err_from_is_err_and c.from_residual.result c.from_residual.ensures.1 in
    rw (p.1, p.2)
    (ap refusal_number bad.0 ∙ (add_4 _ (whole _ c.requires) a.owner a.name.now a.sort a.value.now (not_is c.given_name.ensures (ap not c.if-not-given_name.false))
    (fine_text _ a.value.now c.width_in-w.ensures c.is_value.ensures (ap not c.if-not-is_value.false)) bad.1).is)

pub returns-then-has_attribute : goal.returns-then-has_attribute
returns-then-has_attribute c =
    let a = c.args in
    (add_5 _ (whole _ c.requires) a.owner a.name.now a.sort a.value.now (not_is c.given_name.ensures (ap not c.if-not-given_name.false))
    (fine_text _ a.value.now c.width_in-w.ensures c.is_value.ensures (ap not c.if-not-is_value.false)) c.in_ok-sort.ensures.1
    (test_is c.has_attribute.ensures c.if-has_attribute.true)).is

pub returns-then-owner-definition_count : goal.returns-then-owner-definition_count
returns-then-owner-definition_count c =
    let a = c.args in
    (add_6 _ (whole _ c.requires) a.owner a.name.now a.sort a.value.now (not_is c.given_name.ensures (ap not c.if-not-given_name.false))
    (fine_text _ a.value.now c.width_in-w.ensures c.is_value.ensures (ap not c.if-not-is_value.false)) c.in_ok-sort.ensures.1
    (test_is c.has_attribute.ensures c.if-has_attribute.false)
    (past_definitions _ (whole _ c.requires) c.definition_count.ensures _ (omega arith))).is

pub returns-then-not-is_fill : goal.returns-then-not-is_fill
returns-then-not-is_fill c =
    let a = c.args in
    (add_12 _ (whole _ c.requires) a.owner a.name.now a.sort a.value.now (not_is c.given_name.ensures (ap not c.if-not-given_name.false))
    (fine_text _ a.value.now c.width_in-w.ensures c.is_value.ensures (ap not c.if-not-is_value.false)) c.in_ok-sort.ensures.1
    (test_is c.has_attribute.ensures c.if-has_attribute.false)
    (within_definitions _ (whole _ c.requires) c.definition_count.ensures _ (omega arith))
    (test_is (default_as a.sort a.value.now c.in_ok-sort.ensures.0 c.in_ok-sort.ensures.1 c.is_fill.ensures) (ap not c.if-not-is_fill.true))).is

pub returns : goal.returns
returns c =
    let a = c.args in
    (add_0 _ (whole _ c.requires) a.owner a.name.now a.sort a.value.now (not_is c.given_name.ensures (ap not c.if-not-given_name.false))
    (fine_text _ a.value.now c.width_in-w.ensures c.is_value.ensures (ap not c.if-not-is_value.false)) c.in_ok-sort.ensures.1
    (test_is c.has_attribute.ensures c.if-has_attribute.false)
    (within_definitions _ (whole _ c.requires) c.definition_count.ensures _ (omega arith))
    (test_is (default_as a.sort a.value.now c.in_ok-sort.ensures.0 c.in_ok-sort.ensures.1 c.is_fill.ensures) (ap not c.if-not-is_fill.false))).is
