-- `remove_refusals::remove_element_refusal` meets its contract: each return is the first condition of `remove_element`
-- that holds: 6 (`remove_6` of RemoveLaws), 8 where nothing or a group is picked (`remove_none`, `remove_other`), else
-- what `remove_at` gives (`removable`, `remove_there`), and where that is none, with the place of the element.
use mathlib.Core.Path.{ap, ◌∙◌}
use native.Mathlib.Omega.{arith}
use Rattle.std.specs.Prelude.{Option as Maybe, ok_or}
use Rattle.std.proofs.lemmas.Result.{err_from_is_err_and}
use Rattle.rules.specs.declared.Refusal.TheVariants.{NoPlace}
use Rattle.rules.specs.Given.{number_given}
use Rattle.model_places.specs.declared.Picked.{Picked}
use Rattle.store_check.proofs.StoreFacts.{whole, past_definitions}
use Rattle.model_places.proofs.PickLaws.{as_element, as_none}
use Rattle.remove_refusals.proofs.RemoveLaws.{removable, remove_6, remove_none, remove_other, remove_there}
use Rattle.remove_refusals.proofs.remove_element_refusal.Goals as goal

pub returns-then-owner-definition_count : goal.returns-then-owner-definition_count
returns-then-owner-definition_count c =
    let a = c.args in (
      (remove_6 a.store.now (whole _ c.requires) a.owner a.place.now
          (past_definitions _ (whole _ c.requires) c.definition_count.ensures a.owner (omega arith))).is,
      tt,
    )

pub own_part-part-requires : goal.own_part-part-requires
own_part-part-requires c =
    omega (arith, (whole c.args.store.now c.requires).few_definitions, c.definition_count.ensures.value)

pub returns-in_err-x : goal.returns-in_err-x
returns-in_err-x c =
    let a = c.args in
    let no = c.in_err-x.ensures in
    let p = err_from_is_err_and c.from_residual.result c.from_residual.ensures.1 in
    rw (p.1, p.2) (
      ap number_given (no.value ∙ ap (λ (o : Maybe Picked). ok_or o NoPlace) no.ok_part)
          ∙ (remove_none a.store.now (whole _ c.requires) a.owner a.place.now
          (omega (arith, c.definition_count.ensures.value, (whole a.store.now c.requires).agrees.size)) (as_none c.pick.ensures no.ok_part)).is,
      tt,
    )

pub returns-in_default : goal.returns-in_default
returns-in_default c =
    let a = c.args in (
      (remove_other a.store.now (whole _ c.requires) a.owner a.place.now
          (omega (arith, c.definition_count.ensures.value, (whole a.store.now c.requires).agrees.size))
          c.pick.ensures c.in_ok-x.ensures.ok_part c.in_default.not-Element).is,
      tt,
    )

pub remove_at-requires : goal.remove_at-requires
remove_at-requires c =
    let element = as_element c.pick.ensures c.in_ok-x.ensures.ok_part c.in-Element.is in
    removable element c.requires c.own_part-part.ensures

pub returns-in_err-remove_at : goal.returns-in_err-remove_at
returns-in_err-remove_at c =
    let a = c.args in
    let element = as_element c.pick.ensures c.in_ok-x.ensures.ok_part c.in-Element.is in
    let p = err_from_is_err_and c.from_residual-in_err-remove_at.result c.from_residual-in_err-remove_at.ensures.1 in
    rw (p.1, p.2) (
      (remove_there a.store.now (whole _ c.requires) a.owner a.place.now
          (omega (arith, c.definition_count.ensures.value, (whole a.store.now c.requires).agrees.size))
          element c.own_part-part.ensures c.in_err-remove_at.ensures).is,
      tt,
    )

pub returns : goal.returns
returns c =
    let a = c.args in
    let element = as_element c.pick.ensures c.in_ok-x.ensures.ok_part c.in-Element.is in (
      (remove_there a.store.now (whole _ c.requires) a.owner a.place.now
          (omega (arith, c.definition_count.ensures.value, (whole a.store.now c.requires).agrees.size))
          element c.own_part-part.ensures c.in_ok-remove_at.ensures).is,
      element.placed,
    )
