-- `walk_writer::walker::Walker::pass` meets its contract: if all rows that may be written stay as they are, the block is what
-- was passed (`passes_block` of WalkLaws), else the block and the row after it (`passes_row`); both are of an old store
-- (`rows_within`, `rows_old`, `rows_at`), and there are as many bytes (`size_split` of BlockLaws in `row_writer`).
use Prim.Native.Nat.{◌-◌, ◌≤◌}
use native.Mathlib.Omega.{arith}
use mathlib.Core.Path.{refl}
use Rattle.rules.specs.Layout.{row_size}
use Rattle.row_writer.proofs.BlockLaws.{size_split}
use Rattle.walk_writer.proofs.WalkLaws.{rows_within, rows_old, rows_at, passes_block, passes_row}
use Rattle.walk_writer.proofs.walker.Walker.pass.Goals as goal

pub plain_rows-run-requires : goal.plain_rows-run-requires
plain_rows-run-requires c =
    let a = c.args in
    let w = a.self.now.form.now.width in
    let ready = a.self.now.ready in
    let most = a.count - c.minus.result in
    let l : most ≤ a.count = omega arith in
    let long = size_split (row_size w) most a.count l in (
      ready.width,
      record { definitions = ready.plan.definitions; attributes = ready.plan.attributes },
      rows_within w most a.count a.rows.now l c.requires.0,
      omega (arith, c.requires.1, long),
      c.requires.2,
    )

pub put_block-requires : goal.put_block-requires
put_block-requires c =
    let a = c.args in
    let w = a.self.now.form.now.width in
    let run = c.plain_rows-run in
    let k = run.result.count in
    let l : k ≤ a.count = omega (arith, run.ensures.few) in
    let old = rows_old w k a.rows.now (rows_within w k a.count a.rows.now l c.requires.0) in
    (a.self.now.ready.width, c.requires.3, old, omega (arith, c.requires.1, size_split (row_size w) k a.count l), omega (arith, run.ensures.few, c.minus.ensures))

pub returns-then-run-most : goal.returns-then-run-most
returns-then-run-most c =
    passes_block c.plain_rows-run.ensures c.requires.0 c.requires.1 c.requires.3 (omega arith) c.put_block.ensures
    (omega (arith, c.requires.4, c.requires.5, c.minus.ensures)) (omega (arith, c.minus.ensures)) c.if-run-most.true

pub step-opened-requires : goal.step-opened-requires
step-opened-requires c =
    let a = c.args in
    let run = c.plain_rows-run in
    let row = rows_at a.self.now.form.now.width run.result.count a.count a.rows.now (omega (arith, run.ensures.few, c.if-run-most.false)) c.requires.0
    c.row_size-size.ensures refl c.window-row.ensures in
    (row, run.ensures.near, c.put_block.ensures.room c.requires.3)

pub returns : goal.returns
returns c =
    passes_row c.plain_rows-run.ensures c.requires.0 c.requires.1 c.requires.3 (omega arith) c.put_block.ensures
    (omega (arith, c.minus.ensures)) c.if-run-most.false c.row_size-size.ensures refl c.window-row.ensures c.step-opened.ensures
