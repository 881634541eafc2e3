-- `group_refusals::flatten_group_refusal` meets its contract: each return gives the first condition of change 7 that
-- holds: 6 (`flatten_6` of GroupLaws), 8 where nothing or an element is picked (`flatten_none`, `flatten_element`),
-- else what `flatten_at` gives (`flatten_group_lem`), and where that is none, with the place of the group.
use mathlib.Core.Path.{ap, ◌∙◌}
use native.Mathlib.Omega.{arith}
use Rattle.std.specs.Prelude.{Option as Maybe, ok_or}
use Rattle.std.proofs.lemmas.Result.{err_from_is_err_and}
use Rattle.rules.specs.declared.Refusal.TheVariants.{NoPlace}
use Rattle.rules.specs.Given.{number_given}
use Rattle.model_places.specs.declared.Picked.{Picked}
use Rattle.store_check.proofs.StoreFacts.{whole, past_definitions, within_definitions}
use Rattle.model_places.proofs.PickLaws.{as_group, as_none}
use Rattle.group_refusals.proofs.GroupLaws.{flatten_6, flatten_none, flatten_other, flatten_group_lem}
use Rattle.group_refusals.proofs.flatten_group_refusal.Goals as goal

pub returns-then-owner-definition_count : goal.returns-then-owner-definition_count
returns-then-owner-definition_count c =
    ((flatten_6 _ _ _ (past_definitions _ (whole _ c.requires) c.definition_count.ensures c.args.owner (omega arith))).is, tt)

pub returns-in_err-x : goal.returns-in_err-x
returns-in_err-x c =
    let a = c.args in
    let no = c.in_err-x.ensures in
    let p = err_from_is_err_and c.from_residual.result c.from_residual.ensures.1 in
    rw (p.1, p.2) (
      ap number_given (no.value ∙ ap (λ (o : Maybe Picked). ok_or o NoPlace) no.ok_part)
          ∙ (flatten_none a.store.now a.owner a.place.now
          (within_definitions _ (whole _ c.requires) c.definition_count.ensures a.owner (omega arith)) (as_none c.pick.ensures no.ok_part)).is,
      tt,
    )

pub returns-in_default : goal.returns-in_default
returns-in_default c =
    let a = c.args in (
      (flatten_other a.store.now a.owner a.place.now
          (within_definitions _ (whole _ c.requires) c.definition_count.ensures a.owner (omega arith)) c.pick.ensures c.in_ok-x.ensures.ok_part c.in_default.not-Group).is,
      tt,
    )

pub returns-in_err-flatten_at : goal.returns-in_err-flatten_at
returns-in_err-flatten_at c =
    let a = c.args in
    let group = as_group c.pick.ensures c.in_ok-x.ensures.ok_part c.in-Group.is in
    let p = err_from_is_err_and c.from_residual-in_err-flatten_at.result c.from_residual-in_err-flatten_at.ensures.1 in
    rw (p.1, p.2) (
      (flatten_group_lem a.store.now a.owner a.place.now
          (within_definitions _ (whole _ c.requires) c.definition_count.ensures a.owner (omega arith)) group c.in_err-flatten_at.ensures).is,
      tt,
    )

pub returns : goal.returns
returns c =
    let a = c.args in
    let group = as_group c.pick.ensures c.in_ok-x.ensures.ok_part c.in-Group.is in (
      (flatten_group_lem a.store.now a.owner a.place.now
          (within_definitions _ (whole _ c.requires) c.definition_count.ensures a.owner (omega arith)) group c.in_ok-flatten_at.ensures).is,
      group.placed,
    )
