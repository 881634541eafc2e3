-- `create_definition_call::create_definition` meets its contract: the returns are for a bad store (`bad_by` of CallLaws),
-- a condition (`turned_away_by`), a limit (`answers_limit` of Limits) and none of these (`answers_all`); the bodies after
-- the change are `created` (`flat_after_create` of CreateCall), name and kind fit (`fresh` of CreateConditions).
use mathlib.Core.Bool.{not}
use Rattle.create_definition_call.proofs.CreateCall.{flat_after_create}
use Rattle.definition_refusals.proofs.CreateConditions.{fresh}
use Rattle.store_writer.proofs.CallLaws.{passed, bad_by, turned_away_by}
use Rattle.call_laws.proofs.Limits.{answers_limit, answers_all}
use Rattle.definition_creation.specs.Bodies.{created}
use Rattle.lookup.specs.Bodies.{bodies_of}
use Rattle.rules.specs.Change.{create_definition}
use mathlib.Core.Path.{refl, sym, ap}
use lib.ListN.{length}
use Rattle.rules.proofs.GivenLaws.{refusal_some}
use Rattle.std.proofs.lemmas.Result.{err_from_is_err_and}
use Rattle.create_definition_call.proofs.create_definition.Goals as goal

pub returns-then-not-passes : goal.returns-then-not-passes
returns-then-not-passes c =
    bad_by (create_definition c.args.name.now c.args.kind) c.args.store.now (length c.args.out.now) c.args.out.now
    (ap not c.if-not-passes.true) c.passes.ensures

pub create_condition-requires : goal.create_condition-requires
create_condition-requires c =
    passed c.args.store.now (ap not c.if-not-passes.false) c.passes.ensures

pub returns-in_err-create_condition : goal.returns-in_err-create_condition
returns-in_err-create_condition c =
    let passed_on = err_from_is_err_and c.from_residual.result c.from_residual.ensures.1 in
    rw (passed_on.1, passed_on.2)
    (turned_away_by (create_definition c.args.name.now c.args.kind) c.args.store.now (length c.args.out.now) c.args.out.now
    (ap not c.if-not-passes.false) c.passes.ensures c.in_err-create_condition.field-0.0 c.in_err-create_condition.ensures)

pub create_limit-requires : goal.create_limit-requires
create_limit-requires c =
    passed c.args.store.now (ap not c.if-not-passes.false) c.passes.ensures

pub returns-in_err-create_limit : goal.returns-in_err-create_limit
returns-in_err-create_limit c =
    let passed_on = err_from_is_err_and c.from_residual-in_err-create_limit.result c.from_residual-in_err-create_limit.ensures.1 in
    rw (passed_on.1, passed_on.2)
    (let p = passed c.args.store.now (ap not c.if-not-passes.false) c.passes.ensures in
    let z = sym c.in_ok-create_condition.ensures in
    answers_limit (create_definition c.args.name.now c.args.kind) c.args.store.now c.args.out.now p _
    c.in_ok-create_condition.ensures refl (created c.args.name.now c.args.kind (bodies_of c.args.store.now))
    (flat_after_create c.args.store.now c.args.name.now c.args.kind p
    (fresh c.args.store.now c.args.name.now c.args.kind p z).kind)
    _ _ c.in_err-create_limit.ensures (refusal_some c.in_err-create_limit.field-0.0))

pub put_created-length-requires : goal.put_created-length-requires
put_created-length-requires c =
    let p = passed c.args.store.now (ap not c.if-not-passes.false) c.passes.ensures in
    let f = fresh c.args.store.now c.args.name.now c.args.kind p (sym c.in_ok-create_condition.ensures) in
    (p, f.name, f.kind)

pub returns : goal.returns
returns c =
    let p = passed c.args.store.now (ap not c.if-not-passes.false) c.passes.ensures in
    let z = sym c.in_ok-create_condition.ensures in
    answers_all (create_definition c.args.name.now c.args.kind) c.args.store.now c.args.out.now p _
    c.in_ok-create_condition.ensures refl (created c.args.name.now c.args.kind (bodies_of c.args.store.now))
    (flat_after_create c.args.store.now c.args.name.now c.args.kind p
    (fresh c.args.store.now c.args.name.now c.args.kind p z).kind)
    _ _ c.in_ok-create_limit.ensures refl c.put_created-length.ensures
