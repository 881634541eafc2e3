-- `quantifier_refusals::early_refusal` meets its contract: each return is the first of the refusals 3, 4 and 6 that
-- applies, or 0 (`early_3`, `early_4`, `early_6`, `early_0` of QuantifierLaws).
use mathlib.Core.Path.{ap, ◌∙◌}
use mathlib.Core.Bool.{not}
use native.Mathlib.Omega.{arith}
use Rattle.std.proofs.lemmas.Result.{err_from_is_err_and}
use Rattle.rules.specs.Given.{refusal_number}
use Rattle.quantifier_refusals.proofs.QuantifierLaws.{early_3, early_4, early_6, early_0}
use Rattle.quantifier_refusals.proofs.early_refusal.Goals as goal

pub returns-then-not-is_value : goal.returns-then-not-is_value
returns-then-not-is_value c =
    let a = c.args in
    (early_3 a.owner a.quantifier a.text.now a.store.now c.width_in-w.ensures c.is_value.ensures (ap not c.if-not-is_value.true), tt)

pub returns-in_err-new : goal.returns-in_err-new
returns-in_err-new c =
    let a = c.args in
    let bad = c.in_err-new.ensures in
    let p = err_from_is_err_and c.from_residual.result c.from_residual.ensures.1 in
    let early = early_4 a.owner a.quantifier a.text.now a.store.now c.width_in-w.ensures c.is_value.ensures (ap not c.if-not-is_value.false) bad.1 in
    rw (p.1, p.2) (record { is = ap refusal_number bad.0 ∙ early.is }, tt)

pub returns-then-owner-definition_count : goal.returns-then-owner-definition_count
returns-then-owner-definition_count c =
    let a = c.args in (
      early_6 a.owner a.quantifier a.text.now a.store.now c.width_in-w.ensures c.is_value.ensures (ap not c.if-not-is_value.false)
          c.in_ok-new.ensures.1 c.definition_count.ensures (omega arith),
      tt,
    )

pub returns : goal.returns
returns c =
    let a = c.args in (
      early_0 a.owner a.quantifier a.text.now a.store.now c.width_in-w.ensures c.is_value.ensures (ap not c.if-not-is_value.false)
          c.in_ok-new.ensures.1 c.definition_count.ensures (omega arith),
      c.in_ok-new.ensures.0,
    )
