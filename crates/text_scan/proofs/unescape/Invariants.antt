use Prim.Native.Nat.{◌-◌}
use lib.ListN.{length}
use Rattle.text_scan.proofs.UndoingLaws.{Undoing}
use Rattle.text_scan.proofs.unescape.Given as goal

-- once the value that the rest of the text stands for is stored from `at` on, the whole value is
abbrev pub invariant-loop-i : goal.invariant-loop-i
invariant-loop-i l = Undoing l.raw l.initial.value l.value l.at l.i

abbrev pub decreases-loop-i : goal.decreases-loop-i
decreases-loop-i l = length l.raw - l.i
