-- `destroy_definition_call::destroy_definition` meets its contract: the call is refused on a bad store, by a condition
-- (`bad_by`, `turned_away_by` of CallLaws) and by a limit (`answers_limit` of Limits). Else the store is written
-- (`answers_all`), and its bodies are those that the change leaves (`flat_after_destroy` of DestroyCall).
use mathlib.Core.Bool.{not}
use Rattle.destroy_definition_call.proofs.DestroyCall.{flat_after_destroy}
use Rattle.definition_refusals.proofs.DestroyConditions.{stands}
use Rattle.store_writer.proofs.CallLaws.{passed, bad_by, turned_away_by}
use Rattle.call_laws.proofs.Limits.{answers_limit, answers_all}
use Rattle.definition_removal.specs.Bodies.{destroyed}
use Rattle.lookup.specs.Bodies.{bodies_of}
use Rattle.rules.specs.Change.{destroy_definition}
use mathlib.Core.Path.{refl, sym, ap}
use lib.ListN.{length}
use Rattle.rules.proofs.GivenLaws.{refusal_some}
use Rattle.std.proofs.lemmas.Result.{err_from_is_err_and}
use Rattle.destroy_definition_call.proofs.destroy_definition.Goals as goal

pub returns-then-not-passes : goal.returns-then-not-passes
returns-then-not-passes c =
    bad_by (destroy_definition c.args.definition) c.args.store.now (length c.args.out.now) c.args.out.now
    (ap not c.if-not-passes.true) c.passes.ensures

pub destroy_condition-requires : goal.destroy_condition-requires
destroy_condition-requires c =
    passed c.args.store.now (ap not c.if-not-passes.false) c.passes.ensures

pub returns-in_err-destroy_condition : goal.returns-in_err-destroy_condition
returns-in_err-destroy_condition c =
    let passed_on = err_from_is_err_and c.from_residual.result c.from_residual.ensures.1 in
    rw (passed_on.1, passed_on.2)
    (turned_away_by (destroy_definition c.args.definition) c.args.store.now (length c.args.out.now) c.args.out.now
    (ap not c.if-not-passes.false) c.passes.ensures c.in_err-destroy_condition.field-0.0 c.in_err-destroy_condition.ensures)

pub destroy_limit-requires : goal.destroy_limit-requires
destroy_limit-requires c =
    stands c.args.store.now c.args.definition (passed c.args.store.now (ap not c.if-not-passes.false) c.passes.ensures)
    (sym c.in_ok-destroy_condition.ensures)

pub returns-in_err-destroy_limit : goal.returns-in_err-destroy_limit
returns-in_err-destroy_limit c =
    let passed_on = err_from_is_err_and c.from_residual-in_err-destroy_limit.result c.from_residual-in_err-destroy_limit.ensures.1 in
    rw (passed_on.1, passed_on.2)
    (let p = passed c.args.store.now (ap not c.if-not-passes.false) c.passes.ensures in
    answers_limit (destroy_definition c.args.definition) c.args.store.now c.args.out.now p _ c.in_ok-destroy_condition.ensures refl (destroyed c.args.definition (bodies_of c.args.store.now))
    (flat_after_destroy c.args.store.now c.args.definition p (sym c.in_ok-destroy_condition.ensures)) _ _
    c.in_err-destroy_limit.ensures (refusal_some c.in_err-destroy_limit.field-0.0))

pub put_destroyed-left-requires : goal.put_destroyed-left-requires
put_destroyed-left-requires c =
    stands c.args.store.now c.args.definition (passed c.args.store.now (ap not c.if-not-passes.false) c.passes.ensures)
    (sym c.in_ok-destroy_condition.ensures)

pub returns : goal.returns
returns c =
    let p = passed c.args.store.now (ap not c.if-not-passes.false) c.passes.ensures in
    answers_all (destroy_definition c.args.definition) c.args.store.now c.args.out.now p _ c.in_ok-destroy_condition.ensures refl (destroyed c.args.definition (bodies_of c.args.store.now))
    (flat_after_destroy c.args.store.now c.args.definition p (sym c.in_ok-destroy_condition.ensures)) _ _
    c.in_ok-destroy_limit.ensures refl c.put_destroyed-left.ensures
