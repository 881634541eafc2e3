-- `codec::get_u32` meets its contract.
use mathlib.Core.Path.{sym}
use native.Mathlib.Omega.{arith}
use Rattle.codec.proofs.Numbers.{number_four, number_past}
use Rattle.codec.proofs.get_u32.Goals as goal

pub returns-then-s-at : goal.returns-then-s-at
returns-then-s-at c =
    let a = c.args in
    sym (number_past 4 a.s.now a.at (omega arith))

pub returns-then-s-at-ge4 : goal.returns-then-s-at-ge4
returns-then-s-at-ge4 c =
    let a = c.args in
    omega (arith, number_four a.s.now a.at)

pub returns : goal.returns
returns c =
    let a = c.args in
    omega (arith, number_four a.s.now a.at)
