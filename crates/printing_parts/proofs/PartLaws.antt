-- The records of the bodies, by their numbers.
use mathlib.Core.Path.{◌≡◌, refl, ap, ◌∙◌}
use mathlib.Core.List.{[], ◌∷◌, map}
use Prim.Native.Nat.{ℕ, zero, suc, ◌+◌, ◌*◌, ◌<◌, ◌≤◌}
use native.Mathlib.Omega.{arith}
use native.Mathlib.Nat.{mul-suc, mul-zero}
use lib.ListN.{length, take, drop, length-take}
use lib.Seq.{drop-drop}
use Rattle.rules.specs.Bytes.{Bytes}
use Rattle.rules.specs.Decode.{read_definition, read_particle, read_attribute, read_row, read_many, definition_count, particle_count, attribute_count, name_at, flat_name, flat_attribute_name}
use Rattle.lookup.specs.Bodies.{bodies_of, rows_from}
use Rattle.layout.specs.Bodies.{record_at, width_of, attribute_bytes_in}
use Rattle.layout.proofs.LayoutLaws.{width_small, definition_name_short, attribute_name_short, attribute_value_short}
use Rattle.rules.specs.Layout.{header_size, definition_size, particle_size, attribute_size, row_size}
use Rattle.lookup.proofs.Laws.{from_step}
use Rattle.printing_parts.specs.Parts.{from_definitions, from_particles, from_attributes, definition_part, particle_part, attribute_part, names_of, attribute_names_of}
use Rattle.printing_parts.specs.Parts.{definitions_from, particles_from, attributes_from}

-- ---- their places
pub definition_place : (bs : Bytes) (i : ℕ) → take definition_size (drop (header_size + definition_size * i) bs) ≡ definition_part bs i
unfolding from_definitions definition_part
definition_place bs i = simp drop-drop

pub particle_place : (bs : Bytes) (i : ℕ) → take particle_size (drop (header_size + definition_size * definition_count bs + particle_size * i) bs) ≡ particle_part bs i
unfolding from_particles particle_part
particle_place bs i = simp drop-drop

pub attribute_place : (bs : Bytes) (i : ℕ) → attribute_bytes_in bs i ≡ attribute_part bs i
unfolding attribute_bytes_in from_attributes attribute_part
attribute_place bs i = simp drop-drop

-- ---- one after the other
pub particle_step : (bs : Bytes) (end i : ℕ) → i < end → particles_from bs end i ≡ read_particle (particle_part bs i) ∷ particles_from bs end (i + 1)
unfolding particle_part
particle_step bs end i h = from_step read_particle particle_size (from_particles bs) end i h

pub row_step_lem : (w : ℕ) (rows : Bytes) (end i : ℕ) → i < end → rows_from w rows end i ≡ read_row (record_at (row_size w) i rows) ∷ rows_from w rows end (i + 1)
row_step_lem w rows end i h = from_step read_row (row_size w) rows end i h

pub attribute_step : (bs : Bytes) (end i : ℕ) → i < end → attributes_from bs end i ≡ read_attribute (attribute_part bs i) ∷ attributes_from bs end (i + 1)
unfolding attribute_part
attribute_step bs end i h = from_step read_attribute (attribute_size (width_of bs)) (from_attributes bs) end i h

pub definition_step : (bs : Bytes) (end i : ℕ) → i < end → definitions_from bs end i ≡ read_definition (definition_part bs i) ∷ definitions_from bs end (i + 1)
unfolding definition_part
definition_step bs end i h = from_step read_definition definition_size (from_definitions bs) end i h

-- ---- names out of a table
module _ {A : Type 0} (name : A → Bytes) (f : Bytes → A) (size : ℕ) where
  pub name_there : (n i : ℕ) (bs : Bytes) → i < n → name_at i (map name (read_many f size n bs)) ≡ name (f (take size (drop (size * i) bs)))
  name_there zero i bs h = absurd (omega arith)
  name_there (suc n) zero bs h = rw mul-zero
  name_there (suc n) (suc i) bs h = name_there n i (drop size bs) (omega arith) ∙ ap (λ (l : Bytes). name (f (take size l))) (drop-drop (size * i) size bs ∙ ap (λ (k : ℕ). drop k bs) place)
    where
      place : size + size * i ≡ size * suc i
      place = omega (arith, mul-suc size i)

  pub name_past : (n i : ℕ) (bs : Bytes) → n ≤ i → name_at i (map name (read_many f size n bs)) ≡ []
  name_past zero i bs h = refl
  name_past (suc n) zero bs h = absurd (omega arith)
  name_past (suc n) (suc i) bs h = name_past n i (drop size bs) (omega arith)

module _ (bs : Bytes) (i : ℕ) where
  pub definition_name_lem : i < definition_count bs → name_at i (names_of bs) ≡ (read_definition (definition_part bs i)).name
  unfolding names_of bodies_of definition_part from_definitions
  definition_name_lem h = name_there flat_name read_definition definition_size (definition_count bs) i (drop header_size bs) h

  -- a name is no longer than its record
  pub definition_short : length (read_definition (definition_part bs i)).name ≤ 300
  unfolding definition_part
  definition_short = omega (arith, definition_name_short (definition_part bs i), length-take definition_size (drop (definition_size * i) (from_definitions bs)))

  pub definition_none : definition_count bs ≤ i → name_at i (names_of bs) ≡ []
  unfolding names_of bodies_of
  definition_none h = name_past flat_name read_definition definition_size (definition_count bs) i (drop header_size bs) h

  pub attribute_name_lem : i < attribute_count bs → name_at i (attribute_names_of bs) ≡ (read_attribute (attribute_part bs i)).name
  unfolding attribute_names_of bodies_of attribute_part from_attributes
  attribute_name_lem h =
      name_there flat_attribute_name read_attribute (attribute_size (width_of bs)) (attribute_count bs) i
      (drop (particle_size * particle_count bs) (drop (definition_size * definition_count bs) (drop header_size bs))) h

  attribute_long : length (attribute_part bs i) ≤ attribute_size (width_of bs)
  unfolding attribute_part
  attribute_long = omega (arith, length-take (attribute_size (width_of bs)) (drop (attribute_size (width_of bs) * i) (from_attributes bs)))

  pub attribute_short : length (read_attribute (attribute_part bs i)).name ≤ 300
  attribute_short = omega (arith, attribute_name_short (attribute_part bs i), attribute_long, width_small bs)

  pub attribute_none : attribute_count bs ≤ i → name_at i (attribute_names_of bs) ≡ []
  unfolding attribute_names_of bodies_of
  attribute_none h =
      name_past flat_attribute_name read_attribute (attribute_size (width_of bs)) (attribute_count bs) i
      (drop (particle_size * particle_count bs) (drop (definition_size * definition_count bs) (drop header_size bs))) h

  pub value_short : length (read_attribute (attribute_part bs i)).value ≤ 255
  value_short = omega (arith, attribute_value_short (attribute_part bs i) (width_of bs) attribute_long, width_small bs)
