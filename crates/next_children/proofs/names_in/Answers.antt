-- `next_children::names_in` meets its contract: each step adds the name of the first particle that is left, and so
-- keeps the invariant (`naming_on` of NamesLaws). At the end no particle is left to name an element (`naming_ends`).
use mathlib.Core.Path.{◌∙◌}
use native.Mathlib.Omega.{arith}
use Rattle.next_children.proofs.NamesLaws.{naming_starts, naming_on, naming_ends}
use Rattle.next_children.proofs.names_in.Goals as goal

pub loop-particle-init : goal.loop-particle-init
loop-particle-init c =
    let new = c.chunks_exact-particle-items.ensures in
    rw c.into_iter-particle-iterator.ensures.into_iter_gives (new.size, rw new.rest (naming_starts _))

pub loop-particle-preserved : goal.loop-particle-preserved
loop-particle-preserved c =
    let loop = c.loop-particle.invariant in
    let step = c.in-Some.ensures.steps in
    (step.0 ∙ loop.0, naming_on _ _ _ loop.1 _ _ step.1.0 (step.1.1 ∙ loop.0) _ _ c.first_name.ensures c.union-names.ensures)

pub returns : goal.returns
returns c =
    let loop = c.loop-particle.invariant in
    naming_ends _ _ _ loop.1 (omega (arith, loop.0, c.in-None.ensures.steps.1.0))
