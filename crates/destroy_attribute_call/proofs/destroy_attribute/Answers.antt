-- `destroy_attribute_call::destroy_attribute` meets its contract: a store that does not pass is refused with 1 (`bad_by`
-- of CallLaws), a condition that holds gives its number (`turned_away_by`); else `write_dropped` may be called
-- (`droppable` of Laws), and it answers the outcome (`made` of Calls), as `dropped` is what is left (`destroy_leaves`).
use mathlib.Core.Path.{refl, ap}
use mathlib.Core.Bool.{not}
use mathlib.Core.List.{[]}
use lib.ListN.{length}
use Rattle.rules.specs.Change.{destroy_attribute}
use Rattle.lookup.specs.Bodies.{bodies_of}
use Rattle.store_writer.proofs.CallLaws.{bad_by, turned_away_by}
use Rattle.destroy_attribute_call.specs.Dropped.{dropped}
use Rattle.call_laws.proofs.Calls.{made}
use Rattle.destroy_attribute_call.proofs.Laws.{droppable, destroy_leaves}
use Rattle.std.proofs.lemmas.Result.{err_from_is_err_and}
use Rattle.destroy_attribute_call.proofs.destroy_attribute.Goals as goal

pub returns-then-not-passes : goal.returns-then-not-passes
returns-then-not-passes c =
    bad_by (destroy_attribute c.args.attribute) c.args.store.now (length c.args.out.now) c.args.out.now (ap not c.if-not-passes.true)
    c.passes.ensures

pub returns-in_err-destroy_attribute_refusal : goal.returns-in_err-destroy_attribute_refusal
returns-in_err-destroy_attribute_refusal c =
    let passed_on = err_from_is_err_and c.from_residual.result c.from_residual.ensures.1 in
    rw (passed_on.1, passed_on.2)
    (turned_away_by (destroy_attribute c.args.attribute) c.args.store.now (length c.args.out.now) c.args.out.now
    (ap not c.if-not-passes.false) c.passes.ensures c.in_err-destroy_attribute_refusal.field-0.0 c.in_err-destroy_attribute_refusal.ensures)

pub write_dropped-requires : goal.write_dropped-requires
write_dropped-requires c =
    droppable c.args.store.now (ap not c.if-not-passes.false) c.passes.ensures c.args.attribute
    c.in_ok-destroy_attribute_refusal.ensures refl

pub returns : goal.returns
returns c =
    made (destroy_attribute c.args.attribute) c.args.store.now (length c.args.out.now) c.args.out.now
    (dropped c.args.attribute [] (bodies_of c.args.store.now)) (ap not c.if-not-passes.false) c.passes.ensures
    c.in_ok-destroy_attribute_refusal.ensures refl
    (λ p z. destroy_leaves c.args.store.now p c.args.attribute z) c.write_dropped.ensures
