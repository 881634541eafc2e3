use Prim.Native.Nat.{suc, ◌-◌}
use Rattle.serial_check.proofs.TreeLaws.{Seek}
use Rattle.serial_check.proofs.sought.Given as goal

-- the walk has come to row j with the bits `rest` to go, and no row before it on its way has the serial
abbrev pub invariant-loop-from : goal.invariant-loop-from
invariant-loop-from l = Seek l.rows.width l.rows.bytes.now l.below l.from l.s (suc l.j) l.rest

-- each row is a later one than that before it
abbrev pub decreases-loop-from : goal.decreases-loop-from
decreases-loop-from l = 4096 - l.j
