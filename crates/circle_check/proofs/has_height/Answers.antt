-- `circle_check::has_height` meets its contract: a particle of a sort other than 0 is a group, which passes
-- (`first_group` of MemberLaws), and an element passes if and only if the byte at its index is not 0 (`first_element`).
use Rattle.circle_check.proofs.MemberLaws.{first_group, first_element}
use Rattle.circle_check.proofs.has_height.Goals as goal

pub returns-then-particle_sort-ne0 : goal.returns-then-particle_sort-ne0
returns-then-particle_sort-ne0 c =
    first_group c.args.old.now _ _ c.particle_sort.ensures _ c.if-particle_sort-ne0.true

pub returns : goal.returns
returns c =
    first_element c.args.old.now _ _ c.particle_sort.ensures _ _ _
    c.if-particle_sort-ne0.false c.particle_index-j.ensures c.byte.ensures
