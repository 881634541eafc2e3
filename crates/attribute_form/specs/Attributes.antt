-- Where an attribute stands in the bytes of a form, and how many stand before a new one.
use Rattle.std.specs.Prelude.{ℕ, ◌+◌, ◌*◌, ◌≤◌, ◌<◌, ◌≡◌, List, ◌∷◌, length}
use Rattle.rules.specs.Layout.{definition_size, particle_size, attribute_size, FlatAttribute, FlatStore}
use Rattle.plans.specs.AttributeCalls.{attributes_to}

-- where attribute i stands in the bytes of the form, at a width
pub record AttributeStands (w : ℕ) (f : FlatStore) (i r : ℕ) : Type 0 where
  pub place : r ≡ definition_size * length f.definitions + (particle_size * length f.particles + attribute_size w * i)
  pub small : r < 562949953421312

-- whether an attribute is one of those up to definition o: 1 or 0
pub record UpTo (o : ℕ) (c : FlatAttribute) (r : ℕ) : Type 0 where
  pub more : (cs : List FlatAttribute) → attributes_to o (c ∷ cs) ≡ r + attributes_to o cs
  pub most : r ≤ 1

-- how many they are
pub record To (o : ℕ) (cs : List FlatAttribute) (r : ℕ) : Type 0 where
  pub is : r ≡ attributes_to o cs
  pub most : r ≤ length cs
