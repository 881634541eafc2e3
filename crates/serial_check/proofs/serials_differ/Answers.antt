-- `serial_check::serials_differ` meets its contract: a serial met before refutes the contract's test (`put_refutes` of
-- TreeLaws; `refuses` of SerialsLaws), another keeps the invariant (`trees_start`, `put_more`), and past the last row
-- the test holds (`trees_apart`; `accepts`).
use native.Mathlib.Omega.{arith}
use Rattle.serial_check.proofs.SerialsLaws.{refuses, accepts}
use Rattle.serial_check.proofs.TreeLaws.{trees_start, put_refutes, put_more, trees_apart}
use Rattle.serial_check.proofs.serials_differ.Goals as goal

pub loop-k-init : goal.loop-k-init
loop-k-init c = trees_start _ _

pub put_in_tree-requires : goal.put_in_tree-requires
put_in_tree-requires c =
    (omega arith, c.serial_at-s.ensures, c.loop-k.invariant)

pub returns-then-not-put_in_tree : goal.returns-then-not-put_in_tree
returns-then-not-put_in_tree c = refuses (put_refutes c.put_in_tree.ensures c.if-not-put_in_tree.true (omega arith))

pub loop-k-preserved : goal.loop-k-preserved
loop-k-preserved c = put_more c.put_in_tree.ensures c.if-not-put_in_tree.false

pub returns : goal.returns
returns c = accepts (trees_apart c.loop-k.invariant (omega arith))
