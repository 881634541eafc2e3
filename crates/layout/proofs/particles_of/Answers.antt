-- `layout::particles_of` meets its contract: `shape_of` gives the shape by the store's own header, so that what
-- `particle_body` gives by that shape is the store's particles (`by_shape` of LayoutLaws).
use Rattle.layout.proofs.LayoutLaws.{by_shape}
use Rattle.layout.specs.Bodies.{particle_body}
use Rattle.layout.proofs.particles_of.Goals as goal

pub returns : goal.returns
returns c = by_shape particle_body _ c.shape_of-s.ensures c.particle_body.ensures
