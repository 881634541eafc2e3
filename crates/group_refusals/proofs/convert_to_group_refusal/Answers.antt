-- `group_refusals::convert_to_group_refusal` meets its contract: each return gives the first condition of change 6 that
-- holds: 4 (`convert_4` of ConvertLaws), 6 (`convert_6`), 8 where the place leads nowhere (`convert_none`), else what
-- `convert_at` gives (`convert_there`), and where that is none, with the place (`convert_placed`).
use mathlib.Core.Path.{ap, ◌∙◌}
use native.Mathlib.Omega.{arith}
use Rattle.std.specs.Prelude.{Option as Maybe, ok_or}
use Rattle.std.proofs.lemmas.Result.{err_from_is_err_and}
use Rattle.rules.specs.declared.Refusal.TheVariants.{NoPlace}
use Rattle.rules.specs.Given.{refusal_number, number_given}
use Rattle.model.specs.declared.place.Found.{Found}
use Rattle.store_check.proofs.StoreFacts.{whole, past_definitions, within_definitions}
use Rattle.group_refusals.proofs.ConvertLaws.{no_group, some_group, convert_4, convert_6, convert_none, convert_placed, convert_inside, convert_there}
use Rattle.group_refusals.proofs.convert_to_group_refusal.Goals as goal

pub returns-in_err-kind : goal.returns-in_err-kind
returns-in_err-kind c =
    let a = c.args in
    let bad = c.in_err-kind.ensures in
    let p = err_from_is_err_and c.from_residual.result c.from_residual.ensures.1 in
    rw (p.1, p.2)
    (ap refusal_number bad.0 ∙ (convert_4 a.store.now c.requires a.owner a.place.now a.count a.sort (no_group a.sort bad.1 bad.2)).is, tt)

pub returns-then-owner-definition_count : goal.returns-then-owner-definition_count
returns-then-owner-definition_count c =
    let a = c.args in (
      (convert_6 a.store.now c.requires a.owner a.place.now a.count a.sort
          (some_group a.sort c.in_ok-kind.ensures.1) (past_definitions _ (whole _ c.requires) c.definition_count.ensures a.owner (omega arith))).is,
      tt,
    )

pub own_part-part-requires : goal.own_part-part-requires
own_part-part-requires c =
    omega (arith, (whole c.args.store.now c.requires).few_definitions, c.definition_count.ensures.value)

pub returns-in_err-found : goal.returns-in_err-found
returns-in_err-found c =
    let a = c.args in
    let no = c.in_err-found.ensures in
    let p = err_from_is_err_and c.from_residual-in_err-found.result c.from_residual-in_err-found.ensures.1 in
    rw (p.1, p.2) (
      ap number_given (no.value ∙ ap (λ (o : Maybe Found). ok_or o NoPlace) no.ok_part)
          ∙ (convert_none a.store.now c.requires a.owner a.place.now a.count a.sort
          (some_group a.sort c.in_ok-kind.ensures.1) (within_definitions _ (whole _ c.requires) c.definition_count.ensures a.owner (omega arith))
          (omega (arith, c.definition_count.ensures.value)) c.own_part-part.ensures c.find.ensures no.ok_part).is,
      tt,
    )

pub convert_at-requires : goal.convert_at-requires
convert_at-requires c =
    let a = c.args in
    convert_inside a.store.now c.requires a.owner a.place.now a.count a.sort
    (some_group a.sort c.in_ok-kind.ensures.1) (within_definitions _ (whole _ c.requires) c.definition_count.ensures a.owner (omega arith))
    (omega (arith, c.definition_count.ensures.value)) c.own_part-part.ensures c.find.ensures _ c.in_ok-found.ensures.ok_part

pub returns-in_err-convert_at : goal.returns-in_err-convert_at
returns-in_err-convert_at c =
    let a = c.args in
    let p = err_from_is_err_and c.from_residual-in_err-convert_at.result c.from_residual-in_err-convert_at.ensures.1 in
    rw (p.1, p.2) (
      (convert_there a.store.now c.requires a.owner a.place.now a.count a.sort
          (some_group a.sort c.in_ok-kind.ensures.1) (within_definitions _ (whole _ c.requires) c.definition_count.ensures a.owner (omega arith))
          (omega (arith, c.definition_count.ensures.value)) c.own_part-part.ensures c.find.ensures _ c.in_ok-found.ensures.ok_part
          c.in_ok-kind.ensures.0 c.in_err-convert_at.ensures).is,
      tt,
    )

pub returns : goal.returns
returns c =
    let a = c.args in
    let in_range = within_definitions _ (whole _ c.requires) c.definition_count.ensures a.owner (omega arith) in (
      (convert_there a.store.now c.requires a.owner a.place.now a.count a.sort (some_group a.sort c.in_ok-kind.ensures.1) in_range
          (omega (arith, c.definition_count.ensures.value)) c.own_part-part.ensures c.find.ensures _ c.in_ok-found.ensures.ok_part
          c.in_ok-kind.ensures.0 c.in_ok-convert_at.ensures).is,
      convert_placed a.store.now c.requires a.owner a.place.now a.count a.sort (some_group a.sort c.in_ok-kind.ensures.1) in_range
          (omega (arith, c.definition_count.ensures.value)) c.own_part-part.ensures c.find.ensures _ c.in_ok-found.ensures.ok_part,
    )
