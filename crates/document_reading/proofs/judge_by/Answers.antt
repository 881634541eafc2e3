-- `document_reading::judge_by` meets its contract: the invariant holds at first (`judging_start` of LoopLaws); rows
-- that are not exact or too many give the verdict (`judging_over`), and so do rows that may not come
-- (`judging_refused`); any others keep the invariant (`judging_on`) and make the text shorter; and at the end of the
-- text `walk_ends` gives the verdict (`judging_ended`). What was put is said at the width that the form's bytes say
-- (`put_at_lem`), and what was walked is said of the rows that were put (`batch_walked`).
use Prim.Native.Nat.{ℕ}
use mathlib.Core.Path.{refl, ap, ◌∙◌}
use native.Mathlib.Omega.{arith}
use lib.ListN.{length, length-drop, length-replicate}
use Rattle.document_reading.proofs.FormLaws.{form_room, form_few}
use Rattle.document_reading.proofs.LoopLaws.{put_at_lem, judging_start, judging_inexact, judging_many, judging_refused, judging_on, judging_ended}
use Rattle.document_reading.proofs.LoopLaws.{batch_room, batch_whole, batch_size, batch_walked}
use Rattle.document_reading.proofs.judge_by.Goals as goal

pub loop-t-init : goal.loop-t-init
loop-t-init c = (length-replicate {A = ℕ} 4272 0, judging_start _ _ _ _ c.start-here.ensures.1 c.start-here.ensures.0)

pub overflow_add-most : goal.overflow_add-most
overflow_add-most c =
    omega (arith, c.loop-t.invariant.1.few)

pub put_rows-requires : goal.put_rows-requires
put_rows-requires c =
    let i = c.loop-t.invariant.1 in
    (c.width_in-w.ensures.small, form_room c.args.form.now c.requires.0, i.stack, i.deep, omega arith, omega (arith, i.few), omega arith)

pub returns-in_err-put : goal.returns-in_err-put
returns-in_err-put c =
    rw c.from_residual.ensures (judging_inexact c.loop-t.invariant.1 (put_at_lem c.width_in-w.ensures c.in_err-put.ensures.0))

pub returns-then-here-gt-MAX_ROWS : goal.returns-then-here-gt-MAX_ROWS
returns-then-here-gt-MAX_ROWS c =
    judging_many c.loop-t.invariant.1 (put_at_lem c.width_in-w.ensures c.in_ok-put.ensures.0) (omega (arith, c.if-here-gt-MAX_ROWS.true))

pub slice_bounds-rows-end : goal.slice_bounds-rows-end
slice_bounds-rows-end c =
    let put = put_at_lem c.width_in-w.ensures c.in_ok-put.ensures.0 in
    omega (arith, c.in_ok-put.ensures.1.long, c.loop-t.invariant.0, batch_room c.loop-t.invariant.1 put (omega arith))

pub slice_bounds-read-end : goal.slice_bounds-read-end
slice_bounds-read-end c =
    let i = c.loop-t.invariant.1 in
    let put = put_at_lem c.width_in-w.ensures c.in_ok-put.ensures.0 in
    let room = batch_room i put (omega arith) in
    batch_whole i put (omega (arith, c.loop-t.invariant.0))

pub overflow_sub-count : goal.overflow_sub-count
overflow_sub-count c =
    let put = put_at_lem c.width_in-w.ensures c.in_ok-put.ensures.0 in
    omega (arith, put.is.part.counted)

pub walk_rows-requires : goal.walk_rows-requires
walk_rows-requires c =
    let i = c.loop-t.invariant.1 in
    let put = put_at_lem c.width_in-w.ensures c.in_ok-put.ensures.0 in
    let room = batch_room i put (omega arith) in
    let long = c.loop-t.invariant.0 in
    (form_few c.args.form.now c.requires.0, c.requires.1, i.fits, batch_size i put refl (omega (arith, long, room)))

pub returns-then-not-walk_rows : goal.returns-then-not-walk_rows
returns-then-not-walk_rows c =
    let i = c.loop-t.invariant.1 in
    let put = put_at_lem c.width_in-w.ensures c.in_ok-put.ensures.0 in
    let room = batch_room i put (omega arith) in
    let long = c.loop-t.invariant.0 in
    let made = batch_walked i put refl (omega (arith, long, room)) refl c.walk_rows.ensures in
    judging_refused i put made c.if-not-walk_rows.true

pub loop-t-smaller : goal.loop-t-smaller
loop-t-smaller c =
    let put = put_at_lem c.width_in-w.ensures c.in_ok-put.ensures.0 in
    let unread = c.loop-t-test.true in
    omega (arith, ap length c.after-rest.ensures, length-drop c.in_ok-put.put.size c.loop-t.t.now, put.is.onward unread)

pub loop-t-preserved : goal.loop-t-preserved
loop-t-preserved c =
    let i = c.loop-t.invariant.1 in
    let put = put_at_lem c.width_in-w.ensures c.in_ok-put.ensures.0 in
    let room = batch_room i put (omega arith) in
    let long = c.loop-t.invariant.0 in
    let made = batch_walked i put refl (omega (arith, long, room)) refl c.walk_rows.ensures in
    let kept = c.in_ok-put.ensures.1 in
    (kept.long ∙ long, judging_on i put made c.if-not-walk_rows.false (omega (arith, c.if-here-gt-MAX_ROWS.false)) kept.stack c.after-rest.ensures)

pub walk_ends-ends-requires : goal.walk_ends-ends-requires
walk_ends-ends-requires c =
    (form_few c.args.form.now c.requires.0, c.requires.1, c.loop-t.invariant.1.fits.low)

pub returns : goal.returns
returns c =
    judging_ended c.loop-t.invariant.1 (omega arith) c.walk_ends-ends.ensures c.then_some.ensures
