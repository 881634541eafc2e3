-- The version of a store, in its bodies.
use mathlib.Core.Path.{◌≡◌, refl}
use Rattle.rules.specs.Bytes.{Bytes}
use Rattle.rules.specs.Decode.{version_in}
use Rattle.lookup.specs.Bodies.{bodies_of}

pub version_of : (bs : Bytes) → version_in bs ≡ (bodies_of bs).version
unfolding bodies_of
version_of bs = refl
