-- `codec::part` meets its contract: the first two returns are those where s is too short for n bytes from `at` on
-- (`part_short` of Strings), and the last is the one where it is not (`part_there`).
use mathlib.Core.Path.{◌≡◌, sym, ap, ◌∙◌}
use Prim.Native.Nat.{ℕ, ◌+◌, ◌-◌}
use native.Mathlib.Omega.{arith}
use lib.ListN.{take, drop}
use Rattle.codec.proofs.Strings.{part_there, part_short}
use Rattle.codec.proofs.part.Goals as goal

pub returns-then-s-at : goal.returns-then-s-at
returns-then-s-at c =
    sym (part_short c.args.at c.args.n c.args.s.now (omega arith))

pub returns-then-s-at-2 : goal.returns-then-s-at-2
returns-then-s-at-2 c =
    sym (part_short c.args.at c.args.n c.args.s.now (omega arith))

pub returns : goal.returns
returns c =
    let a = c.args in
    let e : a.at + a.n - a.at ≡ a.n = omega arith in
    ap (λ (k : ℕ). take k (drop a.at a.s.now)) e ∙ sym (part_there a.at a.n a.s.now (omega arith))
