-- That the numbers of particles are bytes is a proposition, as the ghost field of `PlacedEdit` asks.
use mathlib.Core.List.{[], ◌∷◌}
use denote.Struct.Props.{props}
use Rattle.rules.proofs.BooleanLaws.{Every}
use Rattle.rules.proofs.LayoutLaws.{SmallParticle}
use Rattle.model.specs.Places.{Particles}
use Rattle.model_writer.specs.Writing.{Fitting}

every_small : (xs : Particles) → IsProp (Every SmallParticle xs)
every_small [] = hlevel props
every_small (x ∷ xs) =
    let first : IsProp (SmallParticle x) = hlevel props in
    λ u v i. (first u.0 v.0 i, every_small xs u.1 v.1 i)

pub fitting_prop : (xs : Particles) → IsProp (Fitting xs)
unfolding Fitting
fitting_prop xs = every_small xs
