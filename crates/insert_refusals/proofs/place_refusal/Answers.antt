-- `insert_refusals::place_refusal` meets its contract: a place that leads nowhere gives 8 (`place_8` of RefusalLaws);
-- at one that is found the conditions left are those of `model_refusal`, with what `off_spine` says of its list
-- (`place_on`), and where none holds the place is returned (`place_there`).
use mathlib.Core.Path.{ap, ◌∙◌}
use native.Mathlib.Omega.{arith}
use Rattle.std.specs.Prelude.{Option as Maybe, ok_or}
use Rattle.std.proofs.lemmas.Result.{err_from_is_err_and}
use Rattle.rules.specs.declared.Refusal.TheVariants.{NoPlace}
use Rattle.rules.specs.Given.{number_given}
use Rattle.model.specs.declared.place.Found.{Found}
use Rattle.model_reach.proofs.FormFacts.{reads}
use Rattle.insert_refusals.proofs.RefusalLaws.{place_8, place_there, place_on}
use Rattle.insert_refusals.proofs.place_refusal.Goals as goal

pub own_part-part-requires : goal.own_part-part-requires
own_part-part-requires c =
    omega (arith, c.requires.1, (reads c.args.store.now c.requires.0).whole.few_definitions)

pub returns-in_err-gap : goal.returns-in_err-gap
returns-in_err-gap c =
    let a = c.args in
    let none = c.in_err-gap.ensures in
    let p = err_from_is_err_and c.from_residual.result c.from_residual.ensures.1 in
    rw (p.1, p.2) (
      ap number_given (none.value ∙ ap (λ (o : Maybe Found). ok_or o NoPlace) none.ok_part)
          ∙ (place_8 a.store.now a.o a.i a.needed a.unfilled a.place.now
          c.requires.0 c.requires.1 c.own_part-part.ensures c.find.ensures none.ok_part).is,
      tt,
    )

pub returns-in_err-model_refusal : goal.returns-in_err-model_refusal
returns-in_err-model_refusal c =
    let a = c.args in
    let p = err_from_is_err_and c.from_residual-in_err-model_refusal.result c.from_residual-in_err-model_refusal.ensures.1 in
    rw (p.1, p.2) (
      (place_on a.store.now a.o a.i a.needed a.unfilled a.place.now
          c.requires.0 c.requires.1 c.own_part-part.ensures c.find.ensures c.in_ok-gap.ensures.ok_part c.off_spine.ensures c.in_err-model_refusal.ensures).is,
      tt,
    )

pub returns : goal.returns
returns c =
    let a = c.args in (
      (place_on a.store.now a.o a.i a.needed a.unfilled a.place.now
          c.requires.0 c.requires.1 c.own_part-part.ensures c.find.ensures c.in_ok-gap.ensures.ok_part c.off_spine.ensures c.in_ok-model_refusal.ensures).is,
      place_there a.store.now a.o a.i a.needed a.unfilled a.place.now
          c.requires.0 c.requires.1 c.own_part-part.ensures c.find.ensures c.in_ok-gap.ensures.ok_part,
    )
