-- `layout_row_writer::put_zeros` meets its contract: the loop's invariant is kept where a zero is stored at i
-- (`zeros_step` of RowLaws in `layout`), and at the end of the zeros, or of `out`, nothing is left to store
-- (`zeros_laid`).
use mathlib.Core.Path.{refl}
use native.Mathlib.Omega.{arith}
use lib.ListN.{length-set}
use Rattle.layout.proofs.RowLaws.{zeros_step, zeros_laid}
use Rattle.layout_row_writer.proofs.put_zeros.Goals as goal

pub loop-i-init : goal.loop-i-init
loop-i-init c = (refl, refl)

pub bounds-out-i : goal.bounds-out-i
bounds-out-i c = omega arith

pub loop-i-preserved : goal.loop-i-preserved
loop-i-preserved c =
    (zeros_step c.loop-i.out _ c.loop-i.i _ (omega arith) c.loop-i.invariant.0, simp length-set c.loop-i.invariant.1)

pub returns : goal.returns
returns c =
    let a = c.args in
    zeros_laid a.out.now c.loop-i.out a.at a.n c.loop-i.i (omega arith) c.loop-i.invariant.0
