-- `next_children::first_name` meets its contract: the set with the index of an element has that index (`first_some` of
-- NamesLaws), and a group is no element (`first_other`).
use Rattle.next_children.proofs.NamesLaws.{first_some, first_other}
use Rattle.next_children.proofs.first_name.Goals as goal

pub returns-in-Element : goal.returns-in-Element
returns-in-Element c = first_some _ _ _ c.read_particle.ensures _ c.in-Element.is c.bit.ensures

pub returns-in-Group : goal.returns-in-Group
returns-in-Group c = first_other _ _ _ c.read_particle.ensures _ _ c.in-Group.is
