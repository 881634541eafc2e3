-- The limits of change 1, by what the code tests.
use Prim.Native.Nat.{ℕ, ◌+◌, ◌<◌, ◌≤◌}
use native.Mathlib.Omega.{arith}
use mathlib.Core.Path.{◌≡◌, ap}
use mathlib.Core.Bool.{Bool, true, false, ◌&&◌}
use mathlib.Core.List.{[], ◌∷◌}
use lib.Dec.{leb}
use lib.ListN.{length, length-append}
use borrow.Author.Tests.{le-leb, lt-leb}
use Rattle.rules.specs.Bytes.{Bytes, all}
use Rattle.rules.specs.Preorder.{Deep}
use Rattle.rules.specs.Layout.{value_width, definition_size, FlatParticle, FlatStore, flat_bytes}
use Rattle.rules.specs.Decode.{definition_count}
use Rattle.rules.specs.WellFormed.{within_ceilings, highest_number}
use Rattle.rules.specs.Passing.{passes}
use Rattle.rules.proofs.Words.{and_both, and_split}
use Rattle.rules.proofs.LayoutLaws.{length_flat_bytes}
use Rattle.layout.specs.Bodies.{width_of}
use Rattle.lookup.specs.Bodies.{bodies_of}
use Rattle.store_laws.proofs.StoreLaws.{width_of_bodies}
use Rattle.definition_writer.specs.Bodies.{new_definition}
use Rattle.call_laws.specs.Limits.{Limit}
use Rattle.definition_creation.specs.Bodies.{created}
use Rattle.store_laws.proofs.Encoded.{Encoded, encoded}
use Rattle.call_laws.proofs.Limits.{limit_ceiling, limit_room, limit_none}

module _ (n : Bytes) (k : ℕ) {bs : Bytes} {f : FlatStore} (x : Encoded bs f) where
  grown : length (created n k f).definitions ≡ length f.definitions + 1
  unfolding created
  grown = length-append f.definitions (new_definition n k ∷ [])

  abbrev others_within : FlatStore → Bool
  others_within f = leb (length f.particles) 256 && (all (λ (p : Deep FlatParticle). leb p.depth 4) f.particles && (leb (length f.attributes) 64 && leb (length f.rows) 4096))

  pub full : 64 ≤ definition_count bs → within_ceilings (created n k f) ≡ false
  unfolding created
  full h = ap (λ (z : Bool). z && others_within f) (lt-leb (length (created n k f).definitions) 64 (omega (arith, grown, x.definitions)))

  pub within : definition_count bs < 64 → within_ceilings (created n k f) ≡ true
  unfolding created
  within h = and_both (le-leb (length (created n k f).definitions) 64 (omega (arith, grown, x.definitions))) (and_split (leb (length f.definitions) 64) (others_within f) x.ceilings).1

  pub length_created : length (flat_bytes (width_of bs) (created n k f)) ≡ length bs + definition_size
  unfolding created
  length_created = omega (arith, length_flat_bytes (width_of bs) (created n k f), grown, length_flat_bytes (width_of bs) f, ap length x.written)

module _ (n : Bytes) (k : ℕ) (bs : Bytes) (p : passes bs ≡ true) (room : ℕ) where
  abbrev f : FlatStore
  f = created n k (bodies_of bs)

  next_is : f.next ≤ highest_number
  unfolding created
  next_is = (encoded bs p).next

  wide : value_width f.version ≡ width_of bs
  unfolding created
  wide = width_of_bodies bs

  pub at_ceiling : 64 ≤ definition_count bs → Limit (width_of bs) room f 16
  at_ceiling h = limit_ceiling room f wide (full n k (encoded bs p) h)

  pub no_room : definition_count bs < 64 → room < length bs + definition_size → Limit (width_of bs) room f 18
  no_room h l = limit_room room f wide (within n k (encoded bs p) h) next_is (omega (arith, length_created n k (encoded bs p)))

  pub no_limit : definition_count bs < 64 → length bs + definition_size ≤ room → Limit (width_of bs) room f 0
  no_limit h l = limit_none room f wide (within n k (encoded bs p) h) next_is (omega (arith, length_created n k (encoded bs p)))
