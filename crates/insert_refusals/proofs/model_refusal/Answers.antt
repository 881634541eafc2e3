-- `insert_refusals::model_refusal` meets its contract: each return gives the first condition from 9 on that holds: 9 to
-- 12 (`model_9`, `model_10`, `model_11`, `model_12` of RefusalLaws), 0 where the element is not needed or the place not
-- off the spine (`model_on`), else 13 if there is an instance (`model_13`).
use mathlib.Core.Path.{ap}
use mathlib.Core.Bool.{not}
use native.Mathlib.Omega.{arith}
use Rattle.model_reach.proofs.FormFacts.{reads}
use Rattle.instance_search.specs.Instances.{has_instance}
use Rattle.rules.specs.declared.Kind.TheVariants.{Complex}
use Rattle.rules.specs.declared.Refusal.TheVariants.{OffSpine}
use Rattle.instance_search.proofs.InstanceLaws.{refused_number}
use Rattle.insert_refusals.proofs.RefusalLaws.{other_kind_is, same_kind_is, model_9, model_10, model_11, model_12, model_on, model_13}
use Rattle.insert_refusals.proofs.model_refusal.Goals as goal

pub content_kind-requires : goal.content_kind-requires
content_kind-requires c =
    omega (arith, c.requires.1, (reads c.args.store.now c.requires.0).whole.few_definitions)

pub returns-then-ne : goal.returns-then-ne
returns-then-ne c =
    let a = c.args in
    (model_9 _ (reads _ c.requires.0) a.o a.i c.requires.1 a.needed a.unfilled a.off c.content_kind.ensures
    c.definitions_of.ensures (other_kind_is _ Complex c.ne.ensures c.if-ne.true)).is

pub returns-then-in_model : goal.returns-then-in_model
returns-then-in_model c =
    let a = c.args in
    (model_10 _ (reads _ c.requires.0) a.o a.i c.requires.1 a.needed a.unfilled a.off c.content_kind.ensures
    c.definitions_of.ensures (same_kind_is _ Complex c.ne.ensures c.if-ne.false) c.in_model.ensures c.if-in_model.true).is

pub returns-then-comes_round : goal.returns-then-comes_round
returns-then-comes_round c =
    let a = c.args in
    (model_11 _ (reads _ c.requires.0) a.o a.i c.requires.1 a.needed a.unfilled a.off c.content_kind.ensures
    c.definitions_of.ensures (same_kind_is _ Complex c.ne.ensures c.if-ne.false) c.in_model.ensures c.if-in_model.false c.comes_round.ensures
    c.if-comes_round.true).is

pub returns-then-needed-unfilled : goal.returns-then-needed-unfilled
returns-then-needed-unfilled c =
    let a = c.args in
    (model_12 _ (reads _ c.requires.0) a.o a.i c.requires.1 a.needed a.unfilled a.off c.content_kind.ensures
    c.definitions_of.ensures (same_kind_is _ Complex c.ne.ensures c.if-ne.false) c.in_model.ensures c.if-in_model.false c.comes_round.ensures
    c.if-comes_round.false c.if-needed-unfilled.true).is

pub returns-then-not-needed-off : goal.returns-then-not-needed-off
returns-then-not-needed-off c =
    let a = c.args in
    (model_on _ (reads _ c.requires.0) a.o a.i c.requires.1 a.needed a.unfilled a.off c.content_kind.ensures
    c.definitions_of.ensures (same_kind_is _ Complex c.ne.ensures c.if-ne.false) c.in_model.ensures c.if-in_model.false c.comes_round.ensures
    c.if-comes_round.false c.if-needed-unfilled.false (ap not c.if-not-needed-off.true)).is

pub overflow_cast-o : goal.overflow_cast-o
overflow_cast-o c =
    omega (arith, c.requires.1, (reads c.args.store.now c.requires.0).whole.few_definitions)

pub returns : goal.returns
returns c =
    let a = c.args in
    (model_13 _ (reads _ c.requires.0) a.o a.i c.requires.1 a.needed a.unfilled a.off c.content_kind.ensures
    c.definitions_of.ensures (same_kind_is _ Complex c.ne.ensures c.if-ne.false) c.in_model.ensures c.if-in_model.false c.comes_round.ensures
    c.if-comes_round.false c.if-needed-unfilled.false (ap not c.if-not-needed-off.false)
    (refused_number (has_instance a.store.now a.o) OffSpine c.instance_refusal.ensures)).is
