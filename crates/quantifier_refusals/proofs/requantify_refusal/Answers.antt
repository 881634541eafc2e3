-- `quantifier_refusals::requantify_refusal` meets its contract: each return gives the first condition that holds: 3, 4
-- or 6 (`requantify_early` of QuantifierLaws), 8 at no particle or one of the other sort (`requantify_none`,
-- `requantify_other`), else what `quantifier_at` gives (`requantify_there`), and where that is none, with the place.
use mathlib.Core.Path.{◌≡◌, refl, sym, ap, ◌∙◌}
use Rattle.std.specs.Prelude.{Option as Maybe, ok_or}
use Rattle.std.proofs.lemmas.Result.{err_from_is_err_and}
use Rattle.rules.specs.declared.Refusal.TheVariants.{NoPlace}
use Rattle.rules.specs.Given.{number_given}
use Rattle.model_places.specs.declared.Picked.{Picked}
use Rattle.store_check.proofs.StoreFacts.{whole}
use Rattle.model_places.proofs.PickLaws.{as_none}
use Rattle.rules.proofs.GivenLaws.{refusal_some}
use Rattle.quantifier_refusals.proofs.QuantifierLaws.{same_test, other_test, is_group, requantify_early, requantify_none, requantify_other, requantify_there, picked_placed}
use Rattle.quantifier_refusals.proofs.requantify_refusal.Goals as goal
use Rattle.quantifier_refusals.proofs.requantify_refusal.Goals.{in-Element, in-Group}

pub returns-in_err-new : goal.returns-in_err-new
returns-in_err-new c =
    let a = c.args in
    let p = err_from_is_err_and c.from_residual.result c.from_residual.ensures.1 in
    rw (p.1, p.2) (
      (requantify_early a.store.now (whole _ c.requires) a.owner a.place.now a.quantifier a.text.now
          c.in_err-new.ensures.0 a.group (refusal_some _)).is,
      tt,
    )

pub returns-in_err-x : goal.returns-in_err-x
returns-in_err-x c =
    let a = c.args in
    let none = c.in_err-x.ensures in
    let p = err_from_is_err_and c.from_residual-in_err-x.result c.from_residual-in_err-x.ensures.1 in
    rw (p.1, p.2) (
      ap number_given (none.value ∙ ap (λ (o : Maybe Picked). ok_or o NoPlace) none.ok_part)
          ∙ (requantify_none a.store.now (whole _ c.requires) a.owner a.place.now a.quantifier a.text.now
          c.in_ok-new.ensures.0 refl a.group (as_none c.pick.ensures none.ok_part)).is,
      tt,
    )

pub returns-then-is_group-group : goal.returns-then-is_group-group
returns-then-is_group-group c =
    let a = c.args in
    let sort : is_group c.in_ok-x.x.member.what ≡ c.match-x.is_group = elim c.match-x.branch [
      | in-Element w ↦ ap is_group w.in-Element.is ∙ sym w.is_group-is
      | in-Group w ↦ ap is_group w.in-Group.is ∙ sym w.is_group-is
    ] in (
      (requantify_other a.store.now (whole _ c.requires) a.owner a.place.now a.quantifier a.text.now
          c.in_ok-new.ensures.0 refl a.group c.pick.ensures c.in_ok-x.ensures.ok_part (λ z. other_test _ _ c.if-is_group-group.true (sym sort ∙ z))).is,
      tt,
    )

pub returns-in_err-quantifier_at : goal.returns-in_err-quantifier_at
returns-in_err-quantifier_at c =
    let a = c.args in
    let sort : is_group c.in_ok-x.x.member.what ≡ c.match-x.is_group = elim c.match-x.branch [
      | in-Element w ↦ ap is_group w.in-Element.is ∙ sym w.is_group-is
      | in-Group w ↦ ap is_group w.in-Group.is ∙ sym w.is_group-is
    ] in
    let p = err_from_is_err_and c.from_residual-in_err-quantifier_at.result c.from_residual-in_err-quantifier_at.ensures.1 in
    rw (p.1, p.2) (
      (requantify_there a.store.now (whole _ c.requires) a.owner a.place.now a.quantifier a.text.now
          c.in_ok-new.ensures.0 refl a.group c.pick.ensures c.in_ok-x.ensures.ok_part (sort ∙ same_test _ _ c.if-is_group-group.false)
          c.in_ok-new.ensures.1 c.in_err-quantifier_at.ensures).is,
      tt,
    )

pub returns : goal.returns
returns c =
    let a = c.args in
    let sort : is_group c.in_ok-x.x.member.what ≡ c.match-x.is_group = elim c.match-x.branch [
      | in-Element w ↦ ap is_group w.in-Element.is ∙ sym w.is_group-is
      | in-Group w ↦ ap is_group w.in-Group.is ∙ sym w.is_group-is
    ] in (
      (requantify_there a.store.now (whole _ c.requires) a.owner a.place.now a.quantifier a.text.now
          c.in_ok-new.ensures.0 refl a.group c.pick.ensures c.in_ok-x.ensures.ok_part (sort ∙ same_test _ _ c.if-is_group-group.false)
          c.in_ok-new.ensures.1 c.in_ok-quantifier_at.ensures).is,
      picked_placed c.pick.ensures c.in_ok-x.ensures.ok_part,
    )
