-- `lookup::find_value` meets its contract: the invariant holds at first (`seek_start` of Laws). The row with the serial
-- is answered as `found_at` says (`seek_hit`), any other is passed (`seek_past`), and past the last row the answer is 7
-- (`seek_none`). What `row_at` reads is row i of the store (`row_of`).
use mathlib.Core.Path.{sym, ap, ◌∙◌, subst}
use mathlib.Core.List.{List}
use Prim.Native.Nat.{ℕ}
use native.Mathlib.Omega.{arith}
use Rattle.rules.specs.Decode.{read_row}
use Rattle.rules.specs.LookUp.{ValueFound}
use Rattle.lookup.specs.Finding.{LooksBy}
use Rattle.lookup.proofs.Laws.{seek_start, seek_past, seek_hit, seek_none, row_of}
use Rattle.lookup.proofs.find_value.Goals as goal

pub loop-i-init : goal.loop-i-init
loop-i-init c =
    (seek_start _ _ _ c.row_count-count.ensures.value, record { width = c.width_in-w.ensures; body = c.from_rows-rows.ensures }, c.row_count-count.ensures.small)

pub row_at-requires : goal.row_at-requires
row_at-requires c = (c.loop-i.invariant.1.width.small, omega (arith, c.loop-i.invariant.2))

pub found_at-requires : goal.found_at-requires
found_at-requires c = omega (arith, c.loop-i.invariant.2)

pub returns-then-row_serial-serial : goal.returns-then-row_serial-serial
returns-then-row_serial-serial c =
    let a = c.args in
    let row = row_of c.loop-i.i c.loop-i.invariant.1 c.row_at.ensures in
    let e = c.row_serial.ensures ∙ ap (λ (b : List ℕ). (read_row b).row.serial) row in
    subst (λ (f : ValueFound). LooksBy f c.found_at.result)
    (seek_hit a.store.now a.serial _ c.loop-i.i c.loop-i.invariant.0 (omega arith) (sym e ∙ c.if-row_serial-serial.true))
    c.found_at.ensures

pub loop-i-preserved : goal.loop-i-preserved
loop-i-preserved c =
    let a = c.args in
    let row = row_of c.loop-i.i c.loop-i.invariant.1 c.row_at.ensures in
    let e = c.row_serial.ensures ∙ ap (λ (b : List ℕ). (read_row b).row.serial) row in
    (seek_past a.store.now a.serial _ c.loop-i.i c.loop-i.invariant.0 (omega arith) (λ g. c.if-row_serial-serial.false (e ∙ g)), c.loop-i.invariant.1, c.loop-i.invariant.2)

pub returns : goal.returns
returns c = seek_none _ _ _ _ c.loop-i.invariant.0 (omega arith)
