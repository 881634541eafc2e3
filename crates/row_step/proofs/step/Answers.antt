-- `row_step::step` meets its contract: each return is a case of `may_step`: no level of this depth is open (`step_deep`
-- of StepLaws), the row's serial is out of range or an element does not fit (`step_ranges`), a deeper level is owed
-- something (`step_owes`), the row does not fit or may not come next (`step_not`), or the step is made (`step_goes`),
-- for which the state has room (`step_room`).
use native.Mathlib.Omega.{arith}
use Rattle.row_step.specs.Steps.{before_by}
use Rattle.row_step.proofs.StepLaws.{step_deep, step_ranges, step_owes, step_not, step_room, step_goes}
use Rattle.row_step.proofs.step.Goals as goal

pub returns-then-levels-d : goal.returns-then-levels-d
returns-then-levels-d c =
    let a = c.args in
    let before = before_by a.next a.t.now.form in
    let depth = c.row_depth-d in
    step_deep before a.state.now a.row.now c.requires depth.result depth.ensures (omega arith)

pub returns-then-not-ranges_fit : goal.returns-then-not-ranges_fit
returns-then-not-ranges_fit c =
    let a = c.args in
    let before = before_by a.next a.t.now.form in
    let depth = c.row_depth-d in
    step_ranges before a.state.now a.row.now c.requires depth.result depth.ensures c.ranges_fit.ensures c.if-not-ranges_fit.true

pub returns-then-not-levels_end : goal.returns-then-not-levels_end
returns-then-not-levels_end c =
    let a = c.args in
    let before = before_by a.next a.t.now.form in
    let depth = c.row_depth-d in
    step_owes before a.state.now a.row.now c.requires depth.result depth.ensures c.ranges_fit.ensures c.levels_end.ensures
    c.if-not-levels_end.true

pub returns-then-not-row_passes : goal.returns-then-not-row_passes
returns-then-not-row_passes c =
    let a = c.args in
    let before = before_by a.next a.t.now.form in
    let depth = c.row_depth-d in
    step_not before a.state.now a.row.now c.requires depth.result depth.ensures c.ranges_fit.ensures c.levels_end.ensures
    c.level_at-l.ensures c.row_passes.ensures c.if-not-row_passes.true

pub take_row-requires : goal.take_row-requires
take_row-requires c =
    let a = c.args in
    let before = before_by a.next a.t.now.form in
    let depth = c.row_depth-d in
    step_room before a.state.now a.row.now c.requires depth.result depth.ensures c.ranges_fit.ensures c.levels_end.ensures
    c.level_at-l.ensures c.row_passes.ensures a.t.now.tabled.few.definitions a.t.now.tabled.few.attributes
    (omega (arith, c.if-levels-d.false)) c.if-not-ranges_fit.false c.if-not-levels_end.false c.if-not-row_passes.false

pub returns : goal.returns
returns c =
    let a = c.args in
    let before = before_by a.next a.t.now.form in
    let depth = c.row_depth-d in
    step_goes before a.state.now a.row.now c.requires depth.result depth.ensures c.ranges_fit.ensures c.levels_end.ensures
    c.level_at-l.ensures c.row_passes.ensures a.t.now.tabled.few.definitions a.t.now.tabled.few.attributes
    (omega (arith, c.if-levels-d.false)) c.if-not-ranges_fit.false c.if-not-levels_end.false c.if-not-row_passes.false
    c.take_row.ensures
