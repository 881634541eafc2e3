-- `quantifier_refusals::quantifier_at` meets its contract: refusal 12 applies (`at_12` of QuantifierLaws), or none does
-- as the quantifier goes with instances (`at_fine`), or 13 applies if there is an instance (`at_exists`).
use mathlib.Core.Path.{ap}
use mathlib.Core.Bool.{not}
use Rattle.instance_search.specs.Instances.{has_instance}
use Rattle.rules.specs.declared.Refusal.TheVariants.{OffSpine}
use Rattle.instance_search.proofs.InstanceLaws.{refused_number}
use Rattle.quantifier_refusals.proofs.QuantifierLaws.{at_12, at_fine, at_exists}
use Rattle.quantifier_refusals.proofs.quantifier_at.Goals as goal

pub returns-then-gains-text : goal.returns-then-gains-text
returns-then-gains-text c =
    let a = c.args in
    at_12 (has_instance a.store.now a.owner) a.spine a.old a.new a.text.now a.group c.gains.ensures c.if-gains-text.true

pub returns-then-not-is_off : goal.returns-then-not-is_off
returns-then-not-is_off c =
    let a = c.args in
    at_fine (has_instance a.store.now a.owner) a.spine a.old a.new a.text.now a.group c.gains.ensures c.if-gains-text.false
    c.is_off.ensures (ap not c.if-not-is_off.true)

pub returns : goal.returns
returns c =
    let a = c.args in
    at_exists (has_instance a.store.now a.owner) a.spine a.old a.new a.text.now a.group c.gains.ensures c.if-gains-text.false
    c.is_off.ensures (ap not c.if-not-is_off.false)
    (refused_number (has_instance a.store.now a.owner) OffSpine c.instance_refusal.ensures)
