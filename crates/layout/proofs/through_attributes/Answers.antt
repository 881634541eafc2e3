-- `layout::through_attributes` meets its contract: the place where the attributes begin and the product for their bytes
-- add up to the place where they end (`attributes_through` of LayoutLaws).
use native.Mathlib.Omega.{arith}
use Rattle.layout.proofs.LayoutLaws.{attributes_through}
use Rattle.layout.proofs.through_attributes.Goals as goal

pub returns : goal.returns
returns c =
    let a = c.args in
    attributes_through a.w a.n a.p a.a _ _ _ (omega arith) (omega arith) c.attribute_size.ensures c.through_particles-start.ensures c.times.ensures
