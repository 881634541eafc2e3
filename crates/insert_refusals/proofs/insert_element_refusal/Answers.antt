-- `insert_refusals::insert_element_refusal` meets its contract: each return gives the first condition of change 3 that
-- holds: 3 (`insert_3` of RefusalLaws), 4 (`insert_4`), 6 for the owner or the definition (`insert_6`, `insert_6_too`),
-- else what `place_refusal` gives from condition 8 on, with the place (`insert_on`).
use mathlib.Core.Path.{ap, ◌∙◌}
use mathlib.Core.Bool.{not}
use native.Mathlib.Omega.{arith}
use borrow.Author.Rules.{rules}
use Rattle.std.proofs.lemmas.Result.{err_from_is_err_and}
use Rattle.rules.specs.Given.{refusal_number}
use Rattle.model_reach.proofs.FormFacts.{reads}
use Rattle.insert_refusals.proofs.RefusalLaws.{insert_3, insert_4, insert_6, insert_6_too, insert_on}
use Rattle.insert_refusals.proofs.insert_element_refusal.Goals as goal

pub returns-then-not-is_value : goal.returns-then-not-is_value
returns-then-not-is_value c =
    let a = c.args in (
      (insert_3 _ (reads _ c.requires) a.owner a.place.now a.definition a.quantifier a.text.now
          c.width_in-w.ensures c.is_value.ensures (ap not c.if-not-is_value.true)).is,
      tt,
    )

pub returns-in_err-mark : goal.returns-in_err-mark
returns-in_err-mark c =
    let a = c.args in
    let p = err_from_is_err_and c.from_residual.result c.from_residual.ensures.1 in
    rw (p.1, p.2) (
      ap refusal_number c.in_err-mark.ensures.0
          ∙ (insert_4 _ (reads _ c.requires) a.owner a.place.now a.definition a.quantifier a.text.now
          c.width_in-w.ensures c.is_value.ensures (ap not c.if-not-is_value.false) c.in_err-mark.ensures.1).is,
      tt,
    )

pub returns-then-o-n : goal.returns-then-o-n
returns-then-o-n c =
    let a = c.args in (
      (insert_6 _ (reads _ c.requires) a.owner a.place.now a.definition a.quantifier a.text.now
          c.width_in-w.ensures c.is_value.ensures (ap not c.if-not-is_value.false) c.in_ok-mark.ensures.1 c.definition_count-n.ensures (omega arith)).is,
      tt,
    )

pub returns-then-i-n : goal.returns-then-i-n
returns-then-i-n c =
    let a = c.args in (
      (insert_6_too _ (reads _ c.requires) a.owner a.place.now a.definition a.quantifier a.text.now
          c.width_in-w.ensures c.is_value.ensures (ap not c.if-not-is_value.false) c.in_ok-mark.ensures.1 c.definition_count-n.ensures (omega arith) (omega arith)).is,
      tt,
    )

pub place_refusal-requires : goal.place_refusal-requires
place_refusal-requires c =
    let count = c.definition_count-n.ensures.value in
    (c.requires, omega (arith, count), omega (arith, count))

pub returns : goal.returns
returns c =
    let a = c.args in
    let place = c.place_refusal.ensures in
    let given = insert_on _ (reads _ c.requires) a.owner a.place.now a.definition a.quantifier a.text.now
    c.width_in-w.ensures c.is_value.ensures (ap not c.if-not-is_value.false) c.in_ok-mark.ensures.1 c.definition_count-n.ensures (omega arith)
    (omega arith) (search rules) place.0 in
    (given.is, place.1)
