-- The limits of a call, by the bodies of the store that it leaves.
use Rattle.std.specs.Prelude.{ℕ, ◌≤◌, ◌≡◌, length}
use Rattle.rules.specs.Layout.{FlatStore, flat_bytes}
use Rattle.rules.specs.Outcome.{unless_refused}
use Rattle.store_writer.specs.Writing.{limited}

-- r is the number of the first of the rows 16 to 18 that holds of a store by its bodies, at its width, 0 if none does
pub record Limit (w room : ℕ) (f : FlatStore) (r : ℕ) : Type 0 where
  pub outcome : limited room f ≡ unless_refused r (flat_bytes w f)
  pub fits : r ≡ 0 → length (flat_bytes w f) ≤ room
