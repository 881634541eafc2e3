use mathlib.Core.Path.{◌≡◌}
use mathlib.Core.List.{◌++◌}
use Prim.Native.Nat.{◌≤◌}
use lib.ListN.{length, take, drop}
use Rattle.byte_copy.proofs.copy_singly.Given as goal

-- The loop's invariant: the first i bytes of `out` are those of `src`; the others are as they were.
abbrev pub invariant-loop-i : goal.invariant-loop-i
invariant-loop-i l = (l.i ≤ length l.src) × (l.out ≡ take l.i l.src ++ drop l.i l.initial.out) × (length l.out ≡ length l.initial.out)
