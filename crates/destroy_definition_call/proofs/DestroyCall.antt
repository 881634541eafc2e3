-- The store that change 2 leaves.
use Prim.Native.Nat.{ℕ}
use mathlib.Core.Path.{◌≡◌, sym, ap, ◌∙◌}
use mathlib.Core.Bool.{true}
use Rattle.rules.specs.Bytes.{Bytes}
use Rattle.rules.specs.Layout.{flat}
use Rattle.rules.specs.Passing.{passes}
use Rattle.rules.specs.Change.{destroy_definition, after}
use Rattle.rules.specs.Refusal.{first, conditions}
use Rattle.change_laws.proofs.Conditions.{not_past}
use Rattle.lookup.specs.Bodies.{bodies_of}
use Rattle.store_laws.specs.Stores.{store_in}
use Rattle.store_laws.proofs.StoreLaws.{holds}
use Rattle.definition_removal.specs.Bodies.{destroyed}
use Rattle.definition_removal.proofs.Destroyed.{flat_destroyed}
use Rattle.definition_refusals.proofs.DestroyConditions.{unmet}

pub flat_after_destroy : (bs : Bytes) (i : ℕ) → passes bs ≡ true → first (conditions (destroy_definition i) (store_in bs)) ≡ 0
    → flat (after (destroy_definition i) (store_in bs)) ≡ destroyed i (bodies_of bs)
flat_after_destroy bs i p z =
    let (there, models, roots) = unmet bs i p z in
    flat_destroyed i (store_in bs) (holds bs p).good (not_past i (store_in bs).form there) models roots ∙ ap (destroyed i) (sym (holds bs p).bodies)
