-- The store after a plan whose form is the old one.
use mathlib.Core.Path.{◌≡◌, refl}
use Rattle.rules.specs.Bytes.{Bytes}
use Rattle.rules.specs.Layout.{FlatStore}
use Rattle.row_walk.specs.declared.Plan.{Plan}
use Rattle.planned_rows.specs.Planned.{planned, planned_in}

pub planned_same : (plan : Plan) (v : Bytes) (f : FlatStore) → planned_in f plan v f ≡ planned plan v f
unfolding planned_in planned
planned_same plan v f = refl
