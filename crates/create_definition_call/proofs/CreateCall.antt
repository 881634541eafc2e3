-- The store that change 1 leaves.
use Prim.Native.Nat.{ℕ, ◌≤◌}
use mathlib.Core.Path.{◌≡◌, sym, ap, ◌∙◌}
use mathlib.Core.Bool.{true}
use Rattle.rules.specs.Bytes.{Bytes}
use Rattle.rules.specs.Layout.{flat}
use Rattle.rules.specs.Passing.{passes}
use Rattle.rules.specs.Change.{create_definition, after}
use Rattle.lookup.specs.Bodies.{bodies_of}
use Rattle.store_laws.specs.Stores.{store_in}
use Rattle.store_laws.proofs.StoreLaws.{holds}
use Rattle.definition_creation.specs.Bodies.{created}
use Rattle.definition_creation.proofs.Created.{flat_created}

pub flat_after_create : (bs n : Bytes) (k : ℕ) → passes bs ≡ true → k ≤ 2 → flat (after (create_definition n k) (store_in bs)) ≡ created n k (bodies_of bs)
flat_after_create bs n k p h = flat_created n k h (store_in bs) (holds bs p).good ∙ ap (created n k) (sym (holds bs p).bodies)
