-- `filling::needs_no_element` meets its contract: a particle less deep than d ends the members (`no_element_over` of
-- NeededLaws), an element that must be there settles it (`no_element_stop`), and any other keeps the invariant
-- (`no_element_on`). Where no particle is left none must be there (`no_element_few`).
use mathlib.Core.Path.{refl, sym, ap, ◌∙◌}
use native.Mathlib.Omega.{arith}
use Rattle.rules.specs.Preorder.{Deep}
use Rattle.rules.specs.Layout.{FlatParticle}
use Rattle.rules.specs.Decode.{quantifier_of}
use Rattle.model.proofs.ChunkLaws.{front}
use Rattle.filling.specs.Parts.{element_needed}
use Rattle.filling.proofs.NeededLaws.{no_element_few, no_element_over, no_element_stop, no_element_on}
use Rattle.filling.proofs.needs_no_element.Goals as goal

pub loop-particle-init : goal.loop-particle-init
loop-particle-init c =
    let new = c.chunks_exact-particle-items.ensures in
    rw c.into_iter-particle-iterator.ensures.into_iter_gives (new.size, rw new.rest refl)

pub returns-then-own-d : goal.returns-then-own-d
returns-then-own-d c =
    let loop = c.loop-particle.invariant in
    let step = c.in-Some.ensures.steps in
    let first = front _ _ _ step.1.0 (step.1.1 ∙ loop.0) in
    let own = c.particle_depth-own.ensures ∙ ap (λ (p : Deep FlatParticle). p.depth) first.reads in
    sym (loop.1 ∙ no_element_over _ _ first.long _ own (omega arith))

pub returns-then-is_needed : goal.returns-then-is_needed
returns-then-is_needed c =
    let loop = c.loop-particle.invariant in
    let step = c.in-Some.ensures.steps in
    let first = front _ _ _ step.1.0 (step.1.1 ∙ loop.0) in
    let own = c.particle_depth-own.ensures ∙ ap (λ (p : Deep FlatParticle). p.depth) first.reads in
    let needed = c.is_needed.ensures ∙ ap (λ (p : Deep FlatParticle). element_needed p.row.sort (quantifier_of p.row.quantifier)) first.reads in
    sym (loop.1 ∙ no_element_stop _ _ first.long _ own (omega arith) needed c.if-is_needed.true)

pub loop-particle-preserved : goal.loop-particle-preserved
loop-particle-preserved c =
    let loop = c.loop-particle.invariant in
    let step = c.in-Some.ensures.steps in
    let first = front _ _ _ step.1.0 (step.1.1 ∙ loop.0) in
    let own = c.particle_depth-own.ensures ∙ ap (λ (p : Deep FlatParticle). p.depth) first.reads in
    let needed = c.is_needed.ensures ∙ ap (λ (p : Deep FlatParticle). element_needed p.row.sort (quantifier_of p.row.quantifier)) first.reads in
    (step.0 ∙ loop.0, loop.1 ∙ no_element_on _ _ first.long _ own (omega arith) needed c.if-is_needed.false first.rest)

pub returns : goal.returns
returns c =
    let loop = c.loop-particle.invariant in
    sym (loop.1 ∙ no_element_few _ _ (omega (arith, loop.0, c.in-None.ensures.steps.1.0)))
