-- `byte_copy::copy_singly` meets its contract: each step copies one byte more (`copy_more` of CopyLaws), and the loop
-- ends where i is the length of `src`, so that all of it is copied (`take-length` of Seq).
use mathlib.Core.Path.{◌≡◌, refl, ◌∙◌}
use Prim.Native.Nat.{◌<◌, zero-le}
use native.Mathlib.Omega.{arith}
use native.Mathlib.Numerals.{add-one}
use lib.ListN.{length, length-set}
use lib.Seq.{take-length}
use Rattle.byte_copy.proofs.CopyLaws.{copy_more}
use Rattle.byte_copy.proofs.copy_singly.Goals as goal

pub loop-i-init : goal.loop-i-init
loop-i-init c = (zero-le, refl, refl)

pub bounds-src-i : goal.bounds-src-i
bounds-src-i c = omega arith

pub bounds-out-i : goal.bounds-out-i
bounds-out-i c = omega arith

pub loop-i-preserved : goal.loop-i-preserved
loop-i-preserved c =
    let i = c.loop-i.i in
    let src = c.args.src.now in
    let h : i < length src = omega arith in
    let g : i < length c.args.out.now = omega arith in
    (omega arith, rw (c.loop-i.invariant.1, add-one) (copy_more src _ i h g), simp length-set c.loop-i.invariant.2)

pub returns : goal.returns
returns c =
    let e : c.loop-i.i ≡ length c.args.src.now = omega arith in
    c.loop-i.invariant.1 ∙ rw (e, take-length)
