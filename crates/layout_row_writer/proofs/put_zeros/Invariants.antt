use mathlib.Core.Path.{◌≡◌}
use Prim.Native.Nat.{◌-◌}
use lib.ListN.{length, replicate}
use lib.Seq.{sets}
use Rattle.layout_row_writer.proofs.put_zeros.Given as goal

-- storing the zeros that are left gives what storing all of them gave at first
abbrev pub invariant-loop-i : goal.invariant-loop-i
invariant-loop-i l = (sets l.out l.i (replicate (l.next - l.i) 0) ≡ sets l.initial.out l.at (replicate (l.next - l.at) 0)) × (length l.out ≡ length l.initial.out)
