-- `sets::below` meets its contract: for `to` 64 all numbers of s are below it (`below_all` of Laws); else `bit` gives
-- `2 ^ to` (`bit_is`), and the divisor is not 0 (`bit_pos`).
use mathlib.Core.Path.{ap, ◌∙◌}
use Prim.Native.Nat.{ℕ, ◌%◌}
use Rattle.sets.proofs.Laws.{bit_is, bit_pos, below_all}
use native.Mathlib.Omega.{arith}
use Rattle.sets.proofs.below.Goals as goal

pub returns-then-to-ge64 : goal.returns-then-to-ge64
returns-then-to-ge64 c = below_all _ _ c.ranges.s.fits c.requires c.if-to-ge64.true

pub nonzero_rem-result : goal.nonzero_rem-result
nonzero_rem-result c =
    let p = bit_pos c.args.to (omega arith) in
    omega (arith, p, c.bit.ensures)

pub returns : goal.returns
returns c =
    let a = c.args in
    ap (λ (n : ℕ). a.s % n) (c.bit.ensures ∙ bit_is a.to (omega arith))
