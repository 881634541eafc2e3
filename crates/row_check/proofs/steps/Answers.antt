-- `row_check::steps` meets its contract: before the first row all are left (`steps_start` of PassLaws); a row that may
-- not make its step ends the walk with none (`steps_refused`), any other keeps the invariant (`steps_on`), and with no
-- row left the state reached is that of the walk (`steps_end`).
use Prim.Native.Nat.{ℕ, ◌-◌, ◌<◌}
use native.Mathlib.Omega.{arith}
use mathlib.Core.Path.{◌≡◌, ap, subst, ◌∙◌}
use mathlib.Core.Option.{some}
use mathlib.Core.List.{[], ◌∷◌, ◌++◌}
use lib.ListN.{length, length-append}
use Rattle.std.specs.Slice.Iter.{chunks_exact_rest, chunks_exact_size}
use Rattle.row_step.specs.Steps.{before_by, walk}
use Rattle.row_check.proofs.PassLaws.{StepsLeft, steps_start, steps_on, steps_refused, steps_end, made_none, made_all}
use Rattle.row_check.proofs.steps.Goals as goal

pub loop-row-init : goal.loop-row-init
loop-row-init c =
    let a = c.args in
    let before = before_by a.next a.t.now.form in
    let items = c.chunks_exact-row-items.ensures in
    let same = c.into_iter-row-iterator.ensures.into_iter_gives in (
      ap chunks_exact_size same ∙ items.size ∙ c.row_size-size.ensures,
      steps_start before a.state.now _ a.rows.now a.count _ c.requires.0 c.requires.1 c.row_size-size.ensures (ap chunks_exact_rest same ∙ items.rest),
    )

pub returns-then-not-step : goal.returns-then-not-step
returns-then-not-step c =
    let a = c.args in
    let before = before_by a.next a.t.now.form in
    let at = c.loop-row in
    let came = c.in-Some.ensures.steps.1 in
    made_none before a.state.now a.count a.rows.now c.step.ensures.fits
    (steps_refused before _ _ _ _ at.invariant.1 c.in-Some.row.now _ came.0 (came.1 ∙ at.invariant.0) c.step.ensures c.if-not-step.true)

pub loop-row-preserved : goal.loop-row-preserved
loop-row-preserved c =
    let a = c.args in
    let before = before_by a.next a.t.now.form in
    let at = c.loop-row in
    let came = c.in-Some.ensures.steps.1 in
    let left : a.count - length at.yielded - 1 ≡ a.count - length (at.yielded ++ c.in-Some.row ∷ []) = omega (arith, length-append at.yielded (c.in-Some.row ∷ [])) in (
      c.in-Some.ensures.steps.0 ∙ at.invariant.0,
      subst (λ (m : ℕ). StepsLeft before (walk before a.count a.rows.now (some a.state.now)) c.step.new.state (chunks_exact_rest c.next.new.self) m) left
          (steps_on before _ _ _ _ at.invariant.1 c.in-Some.row.now _ came.0 (came.1 ∙ at.invariant.0) c.step.ensures c.if-not-step.false),
    )

pub returns : goal.returns
returns c =
    let a = c.args in
    let before = before_by a.next a.t.now.form in
    let at = c.loop-row in
    made_all before a.state.now a.count a.rows.now at.invariant.1.fits
    (steps_end before _ _ _ _ at.invariant.1 (subst (λ (n : ℕ). length (chunks_exact_rest at.row-iterator) < n) at.invariant.0 c.in-None.ensures.steps.1.0))
