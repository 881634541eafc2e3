-- `read_call::read_documents` meets its contract: documents that do not stand are refused with 19 (`answer_bad` of
-- CallLaws), a store that has no room with 18 (`answer_short`), any other is written whole (`answer_all`).
use native.Mathlib.Omega.{arith}
use Rattle.read_call.proofs.CallLaws.{rows_standing, answer_bad, answer_short, answer_all}
use Rattle.read_call.proofs.read_documents.Goals as goal

pub judge_documents-requires : goal.judge_documents-requires
judge_documents-requires c =
    c.requires

pub returns-in_default : goal.returns-in_default
returns-in_default c =
    answer_bad c.args.form.now c.args.text.now c.args.out.now c.in_default.ensures

pub row_size-requires : goal.row_size-requires
row_size-requires c = c.width_in-w.ensures.small

pub times-requires : goal.times-requires
times-requires c =
    let there = rows_standing c.args.form.now c.args.text.now c.in-Some.ensures in
    (omega (arith, c.row_size.ensures, c.width_in-w.ensures.small), omega (arith, there.few))

pub overflow_add-length : goal.overflow_add-length
overflow_add-length c = omega (arith, c.times.ensures.small, c.row_start.ensures.small)

pub returns-then-length-out : goal.returns-then-length-out
returns-then-length-out c =
    answer_short c.args.form.now c.args.text.now c.args.out.now c.in-Some.ensures
    c.row_start.ensures c.width_in-w.ensures c.row_size.ensures c.times.ensures (omega (arith, c.if-length-out.true))

pub put_store-requires : goal.put_store-requires
put_store-requires c =
    (c.requires, rows_standing c.args.form.now c.args.text.now c.in-Some.ensures)

pub returns : goal.returns
returns c =
    answer_all c.args.form.now c.args.text.now c.args.out.now c.in-Some.ensures
    c.row_start.ensures c.width_in-w.ensures c.row_size.ensures c.times.ensures (omega (arith, c.if-length-out.false))
    c.put_store.ensures
