-- `layout_writer::put_counted` meets its contract: the definitions up to the count of number o, the count n and the
-- rest, laid one after the other (`laid_then`, `laid_as` of Writers in `codec`), are `counted_bytes` (`rest_counted` of
-- RecordLaws in `layout`); neither part is longer than all definitions (`length_cut` of LayoutLaws in `layout`).
use mathlib.Core.Path.{sym}
use Prim.Native.Nat.{◌+◌, ◌*◌}
use native.Mathlib.Omega.{arith}
use lib.ListN.{length}
use Rattle.codec.proofs.Writers.{laid_as, laid_then}
use Rattle.layout.proofs.LayoutLaws.{length_cut}
use Rattle.layout.proofs.RecordLaws.{rest_counted}
use Rattle.layout_writer.proofs.put_counted.Goals as goal

pub put-requires : goal.put-requires
put-requires c =
    omega (
      arith,
      c.requires.0,
      c.requires.1,
      c.put-next.ensures.next,
      c.put_u16-end.ensures.next,
      length_cut c.args.defs.now _ 0 (20 * c.args.o + 18) c.window.ensures,
      length_cut c.args.defs.now _ (20 * c.args.o + 18 + 2) (length c.args.defs.now) c.window-2.ensures,
    )

pub returns : goal.returns
returns c =
    let a = c.args in
    laid_then (laid_as (sym c.window.ensures) c.put-next.ensures)
    (laid_then c.put_u16-end.ensures (laid_as (rest_counted a.o a.defs.now c.window-2.ensures) c.put.ensures))
