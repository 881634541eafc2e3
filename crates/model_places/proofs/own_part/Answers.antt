-- `model_places::own_part` meets its contract: the two bodies that are read are the store's, so the part is `part_in`
-- (`own_model` of PickLaws).
use Rattle.model_places.proofs.PickLaws.{own_model}
use Rattle.model_places.proofs.own_part.Goals as goal

pub returns : goal.returns
returns c =
    own_model _ _ c.definitions_of-definitions.ensures c.particles_of-particles.ensures c.model_part.ensures
