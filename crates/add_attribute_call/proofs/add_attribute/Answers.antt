-- `add_attribute_call::add_attribute` meets its contract: a store that does not pass is refused with 1 (`bad_by` of
-- CallLaws), a condition that holds gives its number (`turned_away_by`); else `write_added` may be called (`addable` of
-- Laws), and its answer is the outcome (`made` of Calls), as `added` is what the change leaves (`add_leaves`).
use mathlib.Core.Path.{refl, ap, ◌∙◌}
use native.Mathlib.Omega.{arith}
use mathlib.Core.Bool.{not}
use lib.ListN.{length}
use Rattle.rules.specs.Layout.{sort_code}
use Rattle.rules.specs.Change.{add_attribute}
use Rattle.lookup.specs.Bodies.{bodies_of}
use Rattle.store_writer.proofs.CallLaws.{bad_by, turned_away_by}
use Rattle.add_attribute_call.specs.Added.{added}
use Rattle.call_laws.proofs.Calls.{made}
use Rattle.add_attribute_call.proofs.Laws.{addable, addable_as, added_as, add_leaves}
use Rattle.std.proofs.lemmas.Result.{err_from_is_err_and}
use Rattle.add_attribute_call.proofs.add_attribute.Goals as goal

pub returns-then-not-passes : goal.returns-then-not-passes
returns-then-not-passes c =
    bad_by (add_attribute c.args.owner c.args.name.now c.args.sort c.args.value.now) c.args.store.now
    (length c.args.out.now) c.args.out.now (ap not c.if-not-passes.true) c.passes.ensures

pub returns-in_err-add_attribute_refusal : goal.returns-in_err-add_attribute_refusal
returns-in_err-add_attribute_refusal c =
    let passed_on = err_from_is_err_and c.from_residual.result c.from_residual.ensures.1 in
    rw (passed_on.1, passed_on.2)
    (turned_away_by (add_attribute c.args.owner c.args.name.now c.args.sort c.args.value.now) c.args.store.now
    (length c.args.out.now) c.args.out.now (ap not c.if-not-passes.false) c.passes.ensures
    c.in_err-add_attribute_refusal.field-0.0 c.in_err-add_attribute_refusal.ensures)

pub overflow_cast-sort : goal.overflow_cast-sort
overflow_cast-sort c =
    omega (
      arith,
      (addable c.args.store.now (ap not c.if-not-passes.false) c.passes.ensures c.args.owner c.args.name.now c.args.sort
          c.args.value.now c.in_ok-add_attribute_refusal.ensures refl).sort,
    )

pub write_added-requires : goal.write_added-requires
write_added-requires c =
    let x = addable c.args.store.now (ap not c.if-not-passes.false) c.passes.ensures c.args.owner c.args.name.now c.args.sort
    c.args.value.now c.in_ok-add_attribute_refusal.ensures refl in
    addable_as c.from.ensures x

pub returns : goal.returns
returns c =
    let x = addable c.args.store.now (ap not c.if-not-passes.false) c.passes.ensures c.args.owner c.args.name.now c.args.sort
    c.args.value.now c.in_ok-add_attribute_refusal.ensures refl in
    made (add_attribute c.args.owner c.args.name.now c.args.sort c.args.value.now) c.args.store.now
    (length c.args.out.now) c.args.out.now
    (added c.args.owner c.args.name.now (sort_code c.from.result) c.args.value.now (bodies_of c.args.store.now))
    (ap not c.if-not-passes.false) c.passes.ensures c.in_ok-add_attribute_refusal.ensures refl
    (λ p z. add_leaves c.args.store.now p c.args.owner c.args.name.now c.args.sort c.args.value.now z ∙ added_as c.from.ensures x)
    c.write_added.ensures
