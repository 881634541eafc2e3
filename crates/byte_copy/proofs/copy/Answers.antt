-- `byte_copy::copy` meets its contract: fewer than eight bytes are copied by `copy_singly`, whose contract is this one.
-- Else each step copies eight bytes more, and the last call the last eight, some of which may be copied already
-- (`copy_part` of CopyLaws).
use mathlib.Core.Path.{◌≡◌, refl, ap, ◌∙◌}
use mathlib.Core.List.{List}
use Prim.Native.Nat.{ℕ, ◌+◌, ◌-◌, zero-le}
use native.Mathlib.Omega.{arith}
use lib.ListN.{length, take, drop}
use lib.Seq.{sets, take-length}
use Rattle.byte_copy.proofs.CopyLaws.{copy_part}
use Rattle.byte_copy.proofs.copy.Goals as goal

pub returns-then-n-lt8 : goal.returns-then-n-lt8
returns-then-n-lt8 c =
    (refl, c.copy_singly.ensures)

pub loop-i-init : goal.loop-i-init
loop-i-init c = (zero-le, refl, refl)

pub copy_eight-requires : goal.copy_eight-requires
copy_eight-requires c = (omega arith, omega arith)

pub overflow_add-i : goal.overflow_add-i
overflow_add-i c = omega arith

pub loop-i-smaller : goal.loop-i-smaller
loop-i-smaller c = omega arith

pub loop-i-preserved : goal.loop-i-preserved
loop-i-preserved c =
    let s = c.args in (
      omega arith,
      c.copy_eight.ensures
          ∙ ap (λ (o : List ℕ). sets o c.loop-i.i (take 8 (drop c.loop-i.i s.src.now))) c.loop-i.invariant.1
          ∙ copy_part s.src.now s.out.now c.loop-i.i c.loop-i.i 8 (omega arith) (omega arith) (omega arith) (omega arith),
      c.copy_eight.auto.out ∙ c.loop-i.invariant.2,
    )

pub copy_eight-requires-2 : goal.copy_eight-requires-2
copy_eight-requires-2 c = (omega arith, omega arith)

pub returns : goal.returns
returns c =
    let s = c.args in
    let e : length s.src.now - 8 + 8 ≡ length s.src.now = omega arith in (
      refl,
      c.copy_eight-2.ensures
          ∙ ap (λ (o : List ℕ). sets o (length s.src.now - 8) (take 8 (drop (length s.src.now - 8) s.src.now))) c.loop-i.invariant.1
          ∙ copy_part s.src.now s.out.now c.loop-i.i (length s.src.now - 8) 8 (omega arith) (omega arith) (omega arith) (omega arith)
          ∙ rw (e, take-length),
    )
