use mathlib.Core.Bool.{true}
use Prim.Native.Nat.{◌+◌, ◌*◌, ◌-◌}
use Rattle.rules.specs.Preorder.{build}
use Rattle.printing_parts.specs.Parts.{particles_from, names_of}
use Rattle.declaration_printing.specs.Declarations.{members_text}
use Rattle.printing_parts.proofs.WalkLaws.{Walk}
use Rattle.declaration_printing.proofs.+put_member_put_members.Given as goal

abbrev pub decreases-put_member : goal.decreases-put_member
decreases-put_member l = 2 * (l.end - l.i)

abbrev pub decreases-put_members : goal.decreases-put_members
decreases-put_members l = 2 * (l.end - l.from) + 1

-- The loop's invariant: the text of the members from particle i on, written from `at` on, completes that of those from
-- `from` on; `first`: no member is written yet.
abbrev pub invariant-put_members-loop-i : goal.invariant-put_members-loop-i
invariant-put_members-loop-i l =
    Walk (particles_from l.store l.end) (members_text (names_of l.store) l.kind)
    (members_text (names_of l.store) l.kind true (build (particles_from l.store l.end l.from) l.depth)) l.end l.from l.depth l.start l.initial.out l.i l.at l.first l.out

abbrev pub decreases-put_members-loop-i : goal.decreases-put_members-loop-i
decreases-put_members-loop-i l = l.end - l.i
