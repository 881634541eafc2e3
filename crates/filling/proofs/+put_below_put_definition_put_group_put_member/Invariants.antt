use lib.ListN.{length}
use Rattle.filling.proofs.FillingLaws.{Rest}
use Rattle.filling.proofs.FillingLaws.{top, rank}
use Prim.Native.Nat.{◌+◌, ◌*◌}
use Rattle.filling.proofs.+put_below_put_definition_put_group_put_member.Given as goal

abbrev pub decreases-put_below : goal.decreases-put_below
decreases-put_below l = rank l.h top

abbrev pub decreases-put_definition : goal.decreases-put_definition
decreases-put_definition l = rank l.h 0

abbrev pub decreases-put_group : goal.decreases-put_group
decreases-put_group l = rank l.h (4 * length l.s.now + 1)

abbrev pub decreases-put_member : goal.decreases-put_member
decreases-put_member l = rank l.h (4 * length l.s.now)

-- the members from t on are still to be written
abbrev pub invariant-put_group-loop-t : goal.invariant-put_group-loop-t
invariant-put_group-loop-t l =
    Rest l.form l.text l.h l.depth l.kind l.d l.s l.initial.c l.initial.out l.t l.c l.out

abbrev pub decreases-put_group-loop-t : goal.decreases-put_group-loop-t
decreases-put_group-loop-t l = length l.t
