-- `document_row_writer::put_rows` meets its contract: nothing is read at first (`part_none` of PutLaws), each token is
-- read after those before it (`putting_on`) or there are no rows (`putting_refused`), and the loop ends at the end of
-- the text or at the limit (`putting_ended`).
use Prim.Native.Nat.{ℕ}
use mathlib.Core.Path.{refl, ap, ◌∙◌}
use native.Mathlib.Omega.{arith}
use lib.ListN.{length, length-drop, length-replicate}
use Rattle.document_row_writer.proofs.PutLaws.{goes_on, part_none, putting_room, putting_on, putting_refused, putting_ended}
use Rattle.document_row_writer.proofs.put_rows.Goals as goal

pub loop-size-init : goal.loop-size-init
loop-size-init c =
    let p = c.requires in
    (record { part = part_none p.3; ceiling = omega arith }, record { stack = p.2; long = refl }, length-replicate {A = ℕ} 256 0)

pub put_token-requires : goal.put_token-requires
put_token-requires c =
    let p = c.requires in
    let i = c.loop-size.invariant in
    let (unread, few) = goes_on c.loop-size.size (length c.args.text.now) c.loop-size.here.count c.args.limit c.loop-size-test.true in (
      p.0,
      p.1,
      i.1.stack,
      i.0.part.deep,
      omega (arith, p.5, few),
      omega (arith, unread, ap length c.after-t.ensures, length-drop c.loop-size.size c.args.text.now),
      omega (arith, p.0, i.2),
      omega (arith, p.6, putting_room i.0 p.5),
    )

pub returns-in_default : goal.returns-in_default
returns-in_default c =
    let i = c.loop-size.invariant in
    let put = c.in_default.ensures in
    let rows = putting_refused i.0 c.after-t.ensures put.0 in (
      record { is = record { rows = rows; depth_stays = refl; tag_stays = refl; count_stays = refl } },
      record { stack = put.1.stack; long = put.1.long ∙ i.1.long },
    )

pub overflow_add-size : goal.overflow_add-size
overflow_add-size c =
    let i = c.loop-size.invariant in
    let read = c.in-Some.ensures.0.is in
    let known = c.well_formed.1.1.1.1.1.0.0 in
    omega (arith, known, read.part.within, i.0.part.within, ap length c.after-t.ensures, length-drop c.loop-size.size c.args.text.now)

pub loop-size-smaller : goal.loop-size-smaller
loop-size-smaller c =
    let read = c.in-Some.ensures.0.is in
    omega (arith, read.onward, read.part.within, ap length c.after-t.ensures, length-drop c.loop-size.size c.args.text.now)

pub loop-size-preserved : goal.loop-size-preserved
loop-size-preserved c =
    let i = c.loop-size.invariant in
    let put = c.in-Some.ensures in
    let (unread, few) = goes_on c.loop-size.size (length c.args.text.now) c.loop-size.here.count c.args.limit c.loop-size-test.true in
    (putting_on i.0 c.after-t.ensures put.0 few, record { stack = put.1.stack; long = put.1.long ∙ i.1.long }, put.2 ∙ i.2)

pub returns : goal.returns
returns c =
    (putting_ended c.loop-size.invariant.0 c.requires.4 c.loop-size-test.false, c.loop-size.invariant.1)
