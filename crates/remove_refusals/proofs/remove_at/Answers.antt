-- `remove_refusals::remove_at` meets its contract: where neither 14 applies nor the list goes with instances, 15 applies
-- if there is an instance (`at_exists` of RemoveLaws, `refused_number` of InstanceLaws).
use borrow.Author.Rules.{rules}
use mathlib.Core.Path.{refl}
use Rattle.rules.specs.declared.Refusal.TheVariants.{NoMatch}
use Rattle.instance_search.specs.Instances.{has_instance}
use Rattle.instance_search.proofs.InstanceLaws.{refused_number}
use Rattle.remove_refusals.proofs.RemoveLaws.{at_exists}
use Rattle.remove_refusals.proofs.remove_at.Goals as goal

pub returns : goal.returns
returns c =
    let a = c.args in
    let exists = has_instance a.store.now a.owner in
    at_exists exists a.part.now a.h a.p c.particles_from-from.ensures c.particle_depth-d.ensures c.count_members-n.ensures
    c.if-d-p.false refl c.choice_left.ensures (search rules) c.if-choice_left.false (refused_number exists NoMatch c.instance_refusal.ensures)
