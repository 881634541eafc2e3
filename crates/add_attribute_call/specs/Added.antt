-- What change 9 leaves, by the bodies of a store.
use Rattle.std.specs.Prelude.{ℕ}
use Rattle.rules.specs.Bytes.{Bytes}
use Rattle.rules.specs.Layout.{FlatStore}
use Rattle.planned_rows.specs.Planned.{planned_in}
use Rattle.plans.specs.AttributeCalls.{attributes_to, add_attribute_plan, attribute_added}
use Rattle.attribute_writer.specs.Attributes.{new_entry}

-- the bodies that change 9 leaves
unfoldable pub added : ℕ → Bytes → ℕ → Bytes → FlatStore → FlatStore
added o n k v f =
    planned_in (attribute_added (attributes_to o f.attributes) (new_entry o n k v) f) (add_attribute_plan f.version o (attributes_to o f.attributes) k) v f
