-- `place_lookup::enter_at` meets its contract: an element is not entered (`enter_element` of EnteringLaws). A group is,
-- with the part that `span` measures after its particle, and on the spine if the list is and `plain` holds
-- (`enter_group_lem`).
use native.Mathlib.Omega.{arith}
use Rattle.model.proofs.EnteringLaws.{enter_element, enter_group_lem}
use Rattle.place_lookup.proofs.enter_at.Goals as goal

pub returns-in_default : goal.returns-in_default
returns-in_default c =
    enter_element c.args.h c.args.p c.args.s.now _ (omega arith) c.read_particle-x.ensures c.in_default.not-Group

pub returns : goal.returns
returns c =
    enter_group_lem c.args.h c.args.p c.args.s.now _ (omega arith) c.read_particle-x.ensures _ _ _ _
    c.in-Group.is c.span-size.ensures c.plain.ensures
