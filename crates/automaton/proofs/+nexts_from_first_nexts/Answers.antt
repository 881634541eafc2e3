-- `automaton::nexts_from` and `automaton::first_nexts` meet their contracts: `first_nexts` tells the facts of an element
-- (`first_element` of FactsLaws in `model`) or of a group by its members (`first_group`). In `nexts_from` a deeper
-- particle is passed (`joining_deeper`), one of depth d is joined (`joining_on`), one less deep or the end of s ends the
-- members (`joining_stop`, `joining_few`). In a group there are fewer particles, so the cycle ends.
use mathlib.Core.Path.{◌≡◌, ap, ◌∙◌}
use mathlib.Core.Bool.{Bool}
use Prim.Native.Nat.{ℕ, ◌+◌, ◌-◌}
use native.Mathlib.Omega.{arith}
use lib.ListN.{length, take, drop}
use Rattle.rules.specs.declared.GroupKind.{GroupKind}
use Rattle.rules.specs.Bytes.{Bytes, numbers}
use Rattle.rules.specs.Decode.{read_particle}
use Rattle.rules.specs.Layout.{particle_size}
use Rattle.rules.specs.Automaton.{single, quantify_facts, facts}
use Rattle.model.specs.declared.What.TheVariants.{Element, Group}
use Rattle.model.specs.declared.Particle.{Particle}
use Rattle.model.specs.Particle.{particle_of, first_facts}
use Rattle.model.specs.Members.{members_from}
use Rattle.model.proofs.ChunkLaws.{front, seen, past}
use Rattle.model.proofs.FactsLaws.{first_element, first_group, joining_few, joining_stop, joining_deeper, joining_on}
use Rattle.automaton.specs.declared.Nexts.{Nexts}
use Rattle.automaton.specs.Nexts.{told}
use Rattle.automaton.proofs.+nexts_from_first_nexts.Goals as goal
use Rattle.automaton.proofs.+nexts_from_first_nexts.Goals.{first_nexts-in-Element, first_nexts-in-Group}

module _ {S : Type 0} (has : S → ℕ → Bool) (y : ℕ) where
  -- the particle that t begins with, of what is told of it once
  module _ (d x : ℕ) (t : Bytes) (p : Particle) (ep : p ≡ particle_of (read_particle t)) {once here r : Nexts S} (e : once ≡ here)
      (q : told has r y ≡ quantify_facts p.quantifier (told has once y)) where
    element : (i : ℕ) → p.what ≡ Element i → told has here y ≡ single numbers i x y → told has r y ≡ first_facts d t x y
    element i w f = first_element d x y t p ep i _ w (q ∙ ap (λ (n : Nexts S). quantify_facts p.quantifier (told has n y)) e ∙ ap (quantify_facts p.quantifier) f)

    group : (k : GroupKind) (n : ℕ) → p.what ≡ Group k n → told has here y ≡ facts numbers k (members_from (d + 1) (take (length t - particle_size) (drop particle_size t))) x y
        → told has r y ≡ first_facts d t x y
    group k n w f = first_group d x y t p ep k n _ _ w f (q ∙ ap (λ (m : Nexts S). quantify_facts p.quantifier (told has m y)) e)

pub first_nexts-returns : goal.first_nexts-returns
first_nexts-returns g t c y h =
    let a = c.args in
    let p = c.read_particle-p in
    elim c.match-p.branch [
      | first_nexts-in-Element w ↦
          element g.N.Names.has y a.d a.x a.t.now p.result p.ensures w.once-is (c.quantified.ensures y) _ w.in-Element.is (w.one_element-once.ensures y h)
      | first_nexts-in-Group w ↦
          group g.N.Names.has y a.d a.x a.t.now p.result p.ensures w.once-is (c.quantified.ensures y) _ _ w.in-Group.is (w.nexts_from-once.ensures y h)
    ]

pub nexts_from-returns-then-depth-d : goal.nexts_from-returns-then-depth-d
nexts_from-returns-then-depth-d g t c y h =
    let a = c.args in
    let loop = c.loop-i.invariant in
    let step = c.in-Some.ensures.steps.0 in
    joining_stop a.kind a.d a.x y a.s.now _ _ (loop.2 y h) (front _ _ _ step.1.0 (step.1.1 ∙ loop.0)) _ c.particle_depth-depth.ensures c.if-depth-d.true

pub nexts_from-loop-i-preserved-then-depth-d-2 : goal.nexts_from-loop-i-preserved-then-depth-d-2
nexts_from-loop-i-preserved-then-depth-d-2 g t c =
    let a = c.args in
    let loop = c.loop-i.invariant in
    let steps = c.in-Some.ensures.steps in
    let step = steps.0 in
    let first = front _ _ _ step.1.0 (step.1.1 ∙ loop.0) in (
      step.0 ∙ loop.0,
      past a.s.now _ steps.2 loop.1 first.rest,
      λ y h. joining_on a.kind a.d a.x y a.s.now _ _ (loop.2 y h) first _ c.particle_depth-depth.ensures c.if-depth-d-2.true _ _
          (c.first_nexts.ensures y h ∙ ap (λ (b : Bytes). first_facts a.d b a.x y) (seen a.s.now _ steps.1 loop.1)) (c.joined-f.ensures y),
    )

pub nexts_from-loop-i-preserved : goal.nexts_from-loop-i-preserved
nexts_from-loop-i-preserved g t c =
    let a = c.args in
    let loop = c.loop-i.invariant in
    let steps = c.in-Some.ensures.steps in
    let step = steps.0 in
    let first = front _ _ _ step.1.0 (step.1.1 ∙ loop.0) in (
      step.0 ∙ loop.0,
      past a.s.now _ steps.2 loop.1 first.rest,
      λ y h. joining_deeper a.kind a.d a.x y a.s.now _ _ (loop.2 y h) first _ c.particle_depth-depth.ensures (omega (arith, c.if-depth-d.false, c.if-depth-d-2.false)),
    )

pub nexts_from-returns : goal.nexts_from-returns
nexts_from-returns g t c y h =
    let a = c.args in
    let loop = c.loop-i.invariant in
    joining_few a.kind a.d a.x y a.s.now _ _ (loop.2 y h) (omega (arith, loop.0, c.in-None.ensures.steps.0.1.0))
