-- `document_rows::tree::next_child` meets its contract: a row less deep ends the rows (`step_less` of SuffixLaws), one of
-- the depth and the sort is the first of them (`step_hit`), any other is passed (`step_past`), and past the last row
-- there is none (`step_none`).
use mathlib.Core.Path.{sym, ◌∙◌}
use native.Mathlib.Omega.{arith}
use Rattle.document_rows.proofs.SuffixLaws.{depth_read, test_read, step_past, step_hit, step_less, step_none}
use Rattle.document_rows.proofs.tree.next_child.Goals as goal

pub returns-then-deep-depth : goal.returns-then-deep-depth
returns-then-deep-depth c =
    let a = c.args in
    let r = a.rows in
    let deep = depth_read r.width c.loop-i.i r.bytes.now c.row-row.ensures c.row_depth-deep.ensures in
    sym c.loop-i.invariant ∙ step_less r.width a.sort a.depth r.bytes.now r.count c.loop-i.i (omega arith) (omega (arith, deep))

pub loop-i-preserved : goal.loop-i-preserved
loop-i-preserved c =
    let a = c.args in
    let r = a.rows in
    let deep = depth_read r.width c.loop-i.i r.bytes.now c.row-row.ensures c.row_depth-deep.ensures in
    let other = test_read r.width c.loop-i.i r.bytes.now c.row-row.ensures c.row_depth-deep.ensures a.sort a.depth c.row_sort.ensures c.if-deep-depth-2.false in
    sym (step_past r.width a.sort a.depth r.bytes.now r.count c.loop-i.i (omega arith) (omega (arith, deep)) other) ∙ c.loop-i.invariant

pub returns-then-deep-depth-2 : goal.returns-then-deep-depth-2
returns-then-deep-depth-2 c =
    let a = c.args in
    let r = a.rows in
    let deep = depth_read r.width c.loop-i.i r.bytes.now c.row-row.ensures c.row_depth-deep.ensures in
    let this = test_read r.width c.loop-i.i r.bytes.now c.row-row.ensures c.row_depth-deep.ensures a.sort a.depth c.row_sort.ensures c.if-deep-depth-2.true in
    record {
      same = c.loop-i.invariant;
      head = step_hit r.width a.sort a.depth r.bytes.now r.count c.loop-i.i (omega arith) (omega (arith, deep)) this;
      onward = omega arith;
      within = omega arith;
    }

pub returns : goal.returns
returns c =
    let a = c.args in
    let r = a.rows in
    sym c.loop-i.invariant ∙ step_none r.width a.sort a.depth r.bytes.now r.count c.loop-i.i (omega arith)
