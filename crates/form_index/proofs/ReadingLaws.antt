-- What the code reads is what the form says.
use Prim.Native.Nat.{ℕ, ◌+◌, ◌*◌, ◌≤◌}
use native.Mathlib.Omega.{arith}
use native.Mathlib.Numerals.{add-one}
use mathlib.Core.Path.{◌≡◌, refl, ap, ◌∙◌}
use mathlib.Core.Bool.{Bool, ◌&&◌}
use lib.Dec.{eqb}
use lib.ListN.{take, drop}
use Rattle.rules.specs.declared.AttributeSort.{AttributeSort}
use Rattle.rules.specs.Bytes.{Bytes}
use Rattle.rules.specs.Layout.{attribute_size}
use Rattle.rules.specs.Decode.{sort_of, read_attribute}
use Rattle.rules.specs.Conforming.{must_be_present}
use Rattle.layout.specs.Bodies.{record_at}
use Rattle.form_index.specs.Reading.{definition_in, attribute_in, particles_before, model_part}
use Rattle.rules.specs.Layout.{particle_size}

-- ---- definitions
pub before_more : (defs : Bytes) (j sum k : ℕ) → sum ≡ particles_before defs j → k ≡ (definition_in defs j).particles → sum + k ≡ particles_before defs (j + 1)
unfolding particles_before
before_more defs j sum k e h = rw (add-one j, e, h)

pub model_read : (defs parts : Bytes) (i a b : ℕ) → a ≡ particles_before defs i → b ≡ (definition_in defs i).particles → take (particle_size * b) (drop (particle_size * a) parts) ≡ model_part defs parts i
unfolding model_part
model_read defs parts i a b e h = rw (e, h)

-- the invariant of the loop over the definitions before
pub record Summed (defs : Bytes) (sum j : ℕ) : Type 0 where
  pub is : sum ≡ particles_before defs j
  pub small : sum ≤ 4294967296 * j

pub summed_none : (defs : Bytes) → Summed defs 0 0
unfolding particles_before
summed_none defs = record { is = refl; small = omega arith }

-- ---- attributes
-- record' is attribute j
module _ (w : ℕ) (record' attrs : Bytes) (j : ℕ) (e : record' ≡ record_at (attribute_size w) j attrs) where
  sort_read : (s : ℕ) → s ≡ (read_attribute record').sort → s ≡ (attribute_in w attrs j).sort
  sort_read s h = h ∙ ap (λ (b : Bytes). (read_attribute b).sort) e

  pub owner_read : (o : ℕ) → o ≡ (read_attribute record').owner → o ≡ (attribute_in w attrs j).owner
  owner_read o h = h ∙ ap (λ (b : Bytes). (read_attribute b).owner) e

  pub needs_read : (version i o s : ℕ) (k : AttributeSort) (b : Bool) → o ≡ (read_attribute record').owner → s ≡ (read_attribute record').sort
      → k ≡ sort_of s → b ≡ must_be_present version k
      → (eqb o i && b) ≡ (eqb (attribute_in w attrs j).owner i && must_be_present version (sort_of (attribute_in w attrs j).sort))
  needs_read version i o s k b p q t r = rw (owner_read o p, r, t, sort_read s q)
