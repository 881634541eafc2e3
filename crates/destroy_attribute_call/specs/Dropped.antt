-- What change 10 leaves, by the bodies of a store.
use Rattle.std.specs.Prelude.{ℕ}
use Rattle.rules.specs.Bytes.{Bytes}
use Rattle.rules.specs.Layout.{FlatStore}
use Rattle.planned_rows.specs.Planned.{planned_in}
use Rattle.plans.specs.AttributeCalls.{owner_at, destroy_attribute_plan, attribute_dropped}

-- the bodies that change 10 leaves; any text, for none is used
unfoldable pub dropped : ℕ → Bytes → FlatStore → FlatStore
dropped a v f = planned_in (attribute_dropped a f) (destroy_attribute_plan (owner_at a f.attributes) a) v f
