-- `member_plans::removing_plan` meets its contract: the plan is that of `taking_plan`, which is `remove_element_plan`,
-- with the index of particle p put in for the one that was read.
use mathlib.Core.Path.{ap, ◌∙◌}
use Prim.Native.Nat.{ℕ}
use Rattle.rules.specs.Bytes.{Bytes}
use Rattle.rules.specs.Decode.{read_particle}
use Rattle.plans.specs.ModelCalls.{remove_element_plan}
use Rattle.member_plans.proofs.removing_plan.Goals as goal

pub returns : goal.returns
returns c =
    let a = c.args in
    c.taking_plan.ensures ∙ ap (λ (i : ℕ). remove_element_plan a.owner i)
    (c.particle_index-index.ensures ∙ ap (λ (s : Bytes). (read_particle s).row.index) c.particles_from.ensures)
