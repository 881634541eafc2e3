-- `declaration_printing::has_members` meets its contract: a particle of depth 0 is a member (`build_same` of
-- PreorderLaws in `rules`), a deeper one leaves the answer to the particles after it (`build_less`), and past the last
-- there is no member (`from_none` of Laws in `lookup`).
use mathlib.Core.Path.{◌≡◌, refl, sym, ap, ◌∙◌}
use mathlib.Core.List.{List}
use Prim.Native.Nat.{ℕ, ◌+◌}
use native.Mathlib.Omega.{arith}
use Rattle.rules.specs.Preorder.{Deep, build}
use Rattle.rules.specs.Layout.{particle_size, FlatParticle}
use Rattle.rules.specs.Decode.{read_particle}
use Rattle.lookup.proofs.Laws.{from_none}
use Rattle.printing_parts.specs.Parts.{particles_from, particle_part}
use Rattle.declaration_printing.specs.Declarations.{is_tree}
use Rattle.printing_parts.proofs.PartLaws.{particle_step}
use Rattle.rules.proofs.PreorderLaws.{build_same, build_less}
use Rattle.declaration_printing.proofs.has_members.Goals as goal

pub loop-i-init : goal.loop-i-init
loop-i-init c = refl

pub returns-then-particle_depth-eq0 : goal.returns-then-particle_depth-eq0
returns-then-particle_depth-eq0 c =
    let a = c.args in
    let d : c.particle_depth.result ≡ (read_particle (particle_part a.store.now c.loop-i.i)).depth =
    c.particle_depth.ensures ∙ ap (λ (b : List ℕ). (read_particle b).depth) c.particle.ensures in
    let e = ap (λ (xs : List (Deep FlatParticle)). build xs 0) (particle_step a.store.now a.end c.loop-i.i (omega arith)) in
    sym
    (ap is_tree
    (e
    ∙ build_same (read_particle (particle_part a.store.now c.loop-i.i)) (particles_from a.store.now a.end (c.loop-i.i + 1)) 0
    (sym d ∙ c.if-particle_depth-eq0.true)))
    ∙ c.loop-i.invariant

pub loop-i-preserved : goal.loop-i-preserved
loop-i-preserved c =
    let a = c.args in
    let d : c.particle_depth.result ≡ (read_particle (particle_part a.store.now c.loop-i.i)).depth =
    c.particle_depth.ensures ∙ ap (λ (b : List ℕ). (read_particle b).depth) c.particle.ensures in
    let e = ap (λ (xs : List (Deep FlatParticle)). build xs 0) (particle_step a.store.now a.end c.loop-i.i (omega arith)) in
    sym (ap is_tree (e
    ∙ build_less (read_particle (particle_part a.store.now c.loop-i.i)) (particles_from a.store.now a.end (c.loop-i.i + 1)) 0
    (omega (arith, c.if-particle_depth-eq0.false))))
    ∙ c.loop-i.invariant

pub returns : goal.returns
returns c =
    let a = c.args in
    sym (ap (λ (xs : List (Deep FlatParticle)). is_tree (build xs 0)) (from_none read_particle particle_size _ a.end c.loop-i.i (omega arith))) ∙ c.loop-i.invariant
