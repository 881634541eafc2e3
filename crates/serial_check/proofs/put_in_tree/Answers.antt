-- `serial_check::put_in_tree` meets its contract: each return has its law in TreeLaws: the tree is empty, and row k is
-- its root (`put_root`); the walk meets a row with the serial (`put_twice`); or it comes to an empty place, where row k
-- is put (`put_below`). What stands below a row is of the first 4096, as `sought` requires (`rising_more`).
use Prim.Native.Nat.{◌%◌}
use native.Mathlib.Omega.{arith}
use Rattle.serial_check.proofs.TreeLaws.{rising_more, put_root, put_below, put_twice}
use Rattle.serial_check.proofs.put_in_tree.Goals as goal

pub returns-then-h-eq0 : goal.returns-then-h-eq0
returns-then-h-eq0 c =
    put_root c.requires.2 _ c.requires.1 c.if-h-eq0.true

pub sought-requires : goal.sought-requires
sought-requires c =
    (omega arith, omega (arith, c.requires.2.low (c.args.s % 4096)), rising_more _ 4096 (omega arith) c.requires.2.rising)

pub returns-in_default : goal.returns-in_default
returns-in_default c = put_twice c.requires.2 _ c.requires.1 c.in_default.ensures

pub returns : goal.returns
returns c = put_below c.requires.2 _ c.requires.1 c.in-Some.ensures
