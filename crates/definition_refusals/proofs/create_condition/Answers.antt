-- `definition_refusals::create_condition` meets its contract: the tests decide the three conditions of
-- `create_definition` in their order, and each return is the number of the first that holds, 0 where none does
-- (`bad_name`, `bad_code`, `name_taken`, `name_free` of CreateConditions).
use Rattle.definition_refusals.proofs.CreateConditions.{bad_name, bad_code, name_taken, name_free}
use mathlib.Core.Path.{ap, ◌∙◌}
use Rattle.std.proofs.lemmas.Result.{err_from_is_err_and}
use Rattle.rules.specs.Given.{refusal_number}
use Rattle.definition_refusals.proofs.create_condition.Goals as goal

pub returns-then-not-given_name : goal.returns-then-not-given_name
returns-then-not-given_name c =
    bad_name c.args.store.now c.args.name.now c.args.kind c.requires c.given_name.ensures c.if-not-given_name.true

pub returns-in_err-try_from : goal.returns-in_err-try_from
returns-in_err-try_from c =
    let bad = c.in_err-try_from.ensures in
    let p = err_from_is_err_and c.from_residual.result c.from_residual.ensures.1 in
    rw (p.1, p.2)
    (ap refusal_number bad.0 ∙ bad_code c.args.store.now c.args.name.now c.args.kind c.requires c.given_name.ensures c.if-not-given_name.false bad.1)

pub returns-then-name_exists : goal.returns-then-name_exists
returns-then-name_exists c =
    name_taken c.args.store.now c.args.name.now c.args.kind c.requires c.given_name.ensures
    c.if-not-given_name.false c.in_ok-try_from.ensures.1 c.name_exists.ensures c.if-name_exists.true

pub returns : goal.returns
returns c =
    name_free c.args.store.now c.args.name.now c.args.kind c.requires c.given_name.ensures
    c.if-not-given_name.false c.in_ok-try_from.ensures.1 c.name_exists.ensures c.if-name_exists.false
