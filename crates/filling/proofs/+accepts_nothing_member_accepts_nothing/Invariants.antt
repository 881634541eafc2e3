use lib.ListN.{length}
use Rattle.filling.proofs.FillingLaws.{Unsettled}
use Prim.Native.Nat.{◌+◌, ◌*◌}
use Rattle.filling.proofs.+accepts_nothing_member_accepts_nothing.Given as goal

abbrev pub decreases-accepts_nothing : goal.decreases-accepts_nothing
decreases-accepts_nothing l = 2 * length l.s.now + 1

abbrev pub decreases-member_accepts_nothing : goal.decreases-member_accepts_nothing
decreases-member_accepts_nothing l = 2 * length l.t.now

-- the members before t have not settled it
abbrev pub invariant-accepts_nothing-loop-t : goal.invariant-accepts_nothing-loop-t
invariant-accepts_nothing-loop-t l = Unsettled l.kind l.d l.s l.t

abbrev pub decreases-accepts_nothing-loop-t : goal.decreases-accepts_nothing-loop-t
decreases-accepts_nothing-loop-t l = length l.t
