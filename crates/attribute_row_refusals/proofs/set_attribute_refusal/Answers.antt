-- `attribute_row_refusals::set_attribute_refusal` meets its contract by a law of AttributeRefusals for each return: 3
-- where the bytes are no value (`set_3`), a refusal of `attribute_refusal` (`set_early`), and 15 if and only if the
-- attribute may not have the value (`set_last`).
use mathlib.Core.Bool.{Bool, not}
use mathlib.Core.List.{[], ◌∷◌}
use mathlib.Core.Path.{◌∙◌, refl, sym, ap}
use native.Mathlib.Omega.{arith}
use Rattle.std.proofs.lemmas.Result.{err_from_is_err_and}
use Rattle.rules.specs.Refusal.{◌if◌, first}
use Rattle.store_check.proofs.StoreFacts.{Whole, whole}
use Rattle.rules.proofs.GivenLaws.{refusal_some}
use Rattle.attribute_row_refusals.proofs.AttributeRefusals.{allows_in, set_3, set_early, set_last, known_of, inside}
use Rattle.attribute_row_refusals.proofs.set_attribute_refusal.Goals as goal

pub returns-then-not-is_value : goal.returns-then-not-is_value
returns-then-not-is_value c =
    let a = c.args in
    (set_3 a.store.now (whole _ c.requires) a.attribute a.element a.value.now c.width_in-w.ensures c.is_value.ensures (ap not c.if-not-is_value.true)).is

pub returns-in_err-attribute_refusal : goal.returns-in_err-attribute_refusal
returns-in_err-attribute_refusal c =
    let a = c.args in
    let p = err_from_is_err_and c.from_residual.result c.from_residual.ensures.1 in
    rw (p.1, p.2)
    (set_early a.store.now (whole _ c.requires) a.attribute a.element a.value.now c.width_in-w.ensures
    c.is_value.ensures (ap not c.if-not-is_value.false) c.in_err-attribute_refusal.ensures.refused (refusal_some _)).is

pub value_may-requires : goal.value_may-requires
value_may-requires c =
    let a = c.args in
    let w : Whole a.store.now = whole _ c.requires in (
      c.width_in-w.ensures.small,
      omega (arith, w.few_attributes, inside _ w a.attribute (known_of _ w a.attribute c.in_ok-attribute_refusal.ensures.refused refl)),
    )

pub returns-then-not-value_may : goal.returns-then-not-value_may
returns-then-not-value_may c =
    let a = c.args in
    sym (ap (λ (b : Bool). first (15 if not b ∷ [])) c.if-not-value_may.true)
    ∙ (set_last a.store.now (whole _ c.requires) a.attribute a.element a.value.now c.width_in-w.ensures c.is_value.ensures
    (ap not c.if-not-is_value.false) c.in_ok-attribute_refusal.ensures.refused refl
    (c.value_may.ensures ∙ allows_in a.store.now c.width_in-w.ensures.value c.attributes_of-attrs.ensures a.attribute a.value.now)).is

pub returns : goal.returns
returns c =
    let a = c.args in
    sym (ap (λ (b : Bool). first (15 if not b ∷ [])) c.if-not-value_may.false)
    ∙ (set_last a.store.now (whole _ c.requires) a.attribute a.element a.value.now c.width_in-w.ensures c.is_value.ensures
    (ap not c.if-not-is_value.false) c.in_ok-attribute_refusal.ensures.refused refl
    (c.value_may.ensures ∙ allows_in a.store.now c.width_in-w.ensures.value c.attributes_of-attrs.ensures a.attribute a.value.now)).is
