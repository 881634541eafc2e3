-- `codec::get_u16` meets its contract.
use mathlib.Core.Path.{sym}
use native.Mathlib.Omega.{arith}
use Prim.Native.Nat.{◌+◌, ◌≤◌}
use lib.ListN.{length, get_or-eq_default}
use Rattle.codec.proofs.Numbers.{number_two, number_past}
use Rattle.codec.proofs.get_u16.Goals as goal

pub returns-then-s-at : goal.returns-then-s-at
returns-then-s-at c =
    let a = c.args in
    sym (number_past 2 a.s.now a.at (omega arith))

pub returns-then-s-at-ge2 : goal.returns-then-s-at-ge2
returns-then-s-at-ge2 c =
    let a = c.args in
    omega (arith, number_two a.s.now a.at)

pub returns : goal.returns
returns c =
    let a = c.args in
    let past : length a.s.now ≤ a.at + 1 = omega arith in
    omega (arith, number_two a.s.now a.at, get_or-eq_default a.s.now 0 past)
