-- `model_places::pick` meets its contract: where `find` gives nothing, the place leads to nothing in the model
-- (`picked_none` of PickLaws); else its particle is within the part (`picked_inside`), and what is read there is what
-- the place leads to (`picked_there`); the owner is bounded by `whole` of StoreFacts in `store_check`.
use Rattle.model_places.proofs.PickLaws.{picked_none, picked_inside, picked_there}
use native.Mathlib.Omega.{arith}
use Rattle.store_check.proofs.StoreFacts.{whole}
use Rattle.model_places.proofs.pick.Goals as goal

pub own_part-part-requires : goal.own_part-part-requires
own_part-part-requires c =
    omega (arith, c.requires.1, (whole c.args.store.now c.requires.0).few_definitions)

pub returns-in_err-place : goal.returns-in_err-place
returns-in_err-place c =
    let a = c.args in
    rw c.from_residual.ensures
    (picked_none a.store.now c.requires.0 a.owner c.requires.1 a.place.now c.own_part-part.ensures c.find.ensures c.in_err-place.was)

pub particles_from-requires : goal.particles_from-requires
particles_from-requires c =
    let a = c.args in
    let low = picked_inside a.store.now c.requires.0 a.owner c.requires.1 a.place.now c.own_part-part.ensures c.find.ensures _ c.in_ok-place.was in
    omega (arith, low)

pub returns : goal.returns
returns c =
    let a = c.args in
    picked_there a.store.now c.requires.0 a.owner c.requires.1 a.place.now c.own_part-part.ensures c.find.ensures _
    c.in_ok-place.was c.particles_from.ensures c.read_particle-member.ensures
