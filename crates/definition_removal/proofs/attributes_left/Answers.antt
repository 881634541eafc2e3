-- `definition_removal::attributes_left` meets its contract: the range of definition i lies within the count, as
-- `count_left` requires, and the count less that range is the number of attributes that `destroyed` leaves, at most 64
-- (`attributes_left` of Left).
use Rattle.definition_removal.proofs.Left.{attributes_left}
use native.Mathlib.Omega.{arith}
use Rattle.definition_removal.proofs.attributes_left.Goals as goal

pub count_left-requires : goal.count_left-requires
count_left-requires c = let own = c.attribute_range.ensures in (own.order, omega (arith, own.past.most, c.attribute_count.ensures.value))

pub returns : goal.returns
returns c =
    let a = c.args in
    attributes_left a.store.now c.requires.good a.i c.requires.there c.attribute_count.ensures c.attribute_range.ensures c.count_left.ensures
