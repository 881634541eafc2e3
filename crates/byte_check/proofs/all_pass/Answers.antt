-- `byte_check::all_pass` meets its contract: below eight bytes the contract of `part_passes` is this one. Else eight
-- bytes that do not all pass make the answer false (`eights_off` of TestLaws), any other eight keep the invariant
-- (`eights_on`), and the answer is that of the last eight, some of which may have passed before (`eights_end`).
use Rattle.std.proofs.Common.{◌≡◌, ◌∙◌, ap, ℕ, ◌-◌, length, take, drop, arith}
use Rattle.rules.specs.Bytes.{all}
use Rattle.byte_check.proofs.TestLaws.{eights_all, eights_on, eights_off, eights_end}
use Rattle.byte_check.proofs.all_pass.Goals as goal

pub loop-part-init : goal.loop-part-init
loop-part-init g c =
    let new = c.chunks_exact-part-items.ensures in
    rw c.into_iter-part-iterator.ensures.into_iter_gives (new.size, rw new.rest (λ p t. eights_all p c.args.s.now))

pub returns-then-not-part_passes : goal.returns-then-not-part_passes
returns-then-not-part_passes g c =
    λ p t.
    let loop = c.loop-part.invariant in
    let step = c.in-Some.ensures.steps in
    eights_off (loop.1 p t) _ _ step.1.0 (step.1.1 ∙ loop.0) (c.part_passes-in-loop-part.ensures p t) c.if-not-part_passes.true

pub loop-part-preserved : goal.loop-part-preserved
loop-part-preserved g c =
    let loop = c.loop-part.invariant in
    let step = c.in-Some.ensures.steps in
    (step.0 ∙ loop.0, λ p t. eights_on (loop.1 p t) _ _ step.1.0 (step.1.1 ∙ loop.0) (c.part_passes-in-loop-part.ensures p t) c.if-not-part_passes.false)

pub returns : goal.returns
returns g c =
    λ p t.
    let s = c.args.s.now in
    let loop = c.loop-part.invariant in
    let at = length s - 8 in
    let e : length s - at ≡ 8 = omega arith in
    eights_end (loop.1 p t) (omega (arith, loop.0, c.in-None.ensures.steps.1.0)) (omega arith)
    (c.part_passes-2.ensures p t ∙ ap (λ (k : ℕ). all p (take k (drop at s))) e)
