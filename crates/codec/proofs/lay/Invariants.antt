use mathlib.Core.Path.{◌≡◌}
use Prim.Native.Nat.{◌≤◌}
use lib.ListN.{length, drop}
use lib.Seq.{sets}
use Rattle.codec.proofs.lay.Given as goal

-- The loop's invariant: the bytes of `src` from i on, laid over `out` from i on, give all of `src` laid over the first
-- `out`.
abbrev pub invariant-loop-i : goal.invariant-loop-i
invariant-loop-i l = (l.i ≤ length l.src) × (sets l.out l.i (drop l.i l.src) ≡ sets l.initial.out 0 l.src) × (length l.out ≡ length l.initial.out)
