-- The bytes of a store that passes, by its bodies; and what is written of them.
use Prim.Native.Nat.{ℕ, ◌+◌, ◌*◌, ◌≤◌}
use mathlib.Core.Path.{◌≡◌, refl, sym, ap, ap₂, ◌∙◌}
use mathlib.Core.Bool.{true}
use mathlib.Core.List.{◌++◌}
use lib.ListN.{length, take, drop}
use lib.Seq.{drop-drop, take-append_seam, drop-append_seam}
use Rattle.rules.specs.Bytes.{Bytes}
use Rattle.rules.specs.Layout.{header_size, definition_size, particle_size, attribute_size, row_size, FlatStore, flat_bytes, definition_bytes, particle_bytes, attribute_bytes, row_bytes, each}
use Rattle.rules.specs.Decode.{number_at, read_row, definition_count, particle_count, attribute_count, row_count}
use Rattle.rules.specs.WellFormed.{highest_number, within_ceilings}
use Rattle.rules.specs.Passing.{passes}
use Rattle.rules.proofs.LayoutLaws.{GoodFlat, length_definition, length_particle, length_attribute, length_each, length_flat_bytes}
use Rattle.rules.proofs.DecodeLaws.{GoodParts, good_parts}
use Rattle.layout.specs.Bodies.{width_of, shape_of, attributes_start, definition_body, particle_body, attribute_body, definitions_in, particles_in, attributes_in}
use Rattle.layout.specs.Header.{contents, headed}
use Rattle.lookup.specs.Bodies.{bodies_of}
use Rattle.store_laws.specs.Stores.{store_in}
use Rattle.store_laws.proofs.StoreLaws.{Holds, holds}
use Rattle.store_laws.proofs.FormBytesLaws.{whole}
use Rattle.store_laws.proofs.FormLaws.{within, good_bodies, counted_definitions, counted_particles, counted_attributes}
use Rattle.codec.proofs.Records.{length_many}
use Rattle.layout.specs.Fields.{next_at}

-- f: the bodies
pub record Encoded (bs : Bytes) (f : FlatStore) : Type 0 where
  pub written : flat_bytes (width_of bs) f ≡ bs
  pub serial : number_at next_at 4 bs ≡ f.next
  pub definitions : definition_count bs ≡ length f.definitions
  pub particles : particle_count bs ≡ length f.particles
  pub attributes : attribute_count bs ≡ length f.attributes
  pub rows : row_count bs ≡ length f.rows
  pub few_definitions : length f.definitions ≤ 64
  pub few_particles : length f.particles ≤ 256
  pub few_attributes : length f.attributes ≤ 64
  pub few_rows : length f.rows ≤ 4096
  pub ceilings : within_ceilings f ≡ true
  pub next : f.next ≤ highest_number
  pub good : GoodFlat (width_of bs) f

module _ (bs : Bytes) where
  counted_rows : row_count bs ≡ length (bodies_of bs).rows
  unfolding bodies_of
  counted_rows = sym (length_many read_row (row_size (width_of bs)) (row_count bs) _)

  pub own_serial : number_at next_at 4 bs ≡ (bodies_of bs).next
  unfolding bodies_of
  own_serial = refl

  pub encoded : passes bs ≡ true → Encoded bs (bodies_of bs)
  encoded p =
      let h : Holds bs = holds bs p in
      let g : GoodParts (store_in bs) = good_parts (store_in bs) h.good in
      record {
        written = whole h;
        serial = own_serial;
        definitions = counted_definitions bs;
        particles = counted_particles bs;
        attributes = counted_attributes bs;
        rows = counted_rows;
        few_definitions = rw h.bodies g.definition_count;
        few_particles = rw h.bodies g.particle_count;
        few_attributes = rw h.bodies g.attribute_count;
        few_rows = rw h.bodies g.row_count;
        ceilings = within h;
        next = rw h.bodies g.next;
        good = good_bodies h;
      }

-- ---- its parts
-- the bodies after the definitions'
abbrev pub others : ℕ → FlatStore → Bytes
others w f = each particle_bytes f.particles ++ (each (attribute_bytes w) f.attributes ++ each (row_bytes w) f.rows)

pub bytes_are : (w : ℕ) (f : FlatStore) → flat_bytes w f
    ≡ headed w f.next (length f.definitions) (length f.particles) (length f.attributes) (length f.rows) (flat_bytes w f) ++ (each definition_bytes f.definitions ++ others w f)
unfolding headed contents
bytes_are w f = refl

module _ {bs : Bytes} {f : FlatStore} (x : Encoded bs f) where
  abbrev w : ℕ
  w = width_of bs

  pub length_is : length bs
      ≡ header_size + (definition_size * definition_count bs + (particle_size * particle_count bs + (attribute_size (width_of bs) * attribute_count bs + row_size (width_of bs) * row_count bs)))
  length_is =
      ap length (sym x.written) ∙ length_flat_bytes w f
      ∙ sym (λ i. header_size + (definition_size * x.definitions i + (particle_size * x.particles i + (attribute_size w * x.attributes i + row_size w * x.rows i))))

  definitions_long : definition_size * definition_count bs ≡ length (each definition_bytes f.definitions)
  definitions_long = ap (λ (k : ℕ). definition_size * k) x.definitions ∙ sym (length_each definition_bytes definition_size length_definition f.definitions)

  pub definitions_at : definitions_in bs ≡ each definition_bytes f.definitions
  unfolding definition_body shape_of
  definitions_at = ap₂ (λ (k : ℕ) (l : Bytes). take k (drop header_size l)) definitions_long (sym x.written) ∙ take-append_seam (each definition_bytes f.definitions) (others w f)

  pub others_at : drop (header_size + definition_size * definition_count bs) bs ≡ others (width_of bs) f
  others_at =
      sym (drop-drop (definition_size * definition_count bs) header_size bs)
      ∙ ap₂ (λ (k : ℕ) (l : Bytes). drop k (drop header_size l)) definitions_long (sym x.written)
      ∙ drop-append_seam (each definition_bytes f.definitions) (others w f)

  particles_long : particle_size * particle_count bs ≡ length (each particle_bytes f.particles)
  particles_long = ap (λ (k : ℕ). particle_size * k) x.particles ∙ sym (length_each particle_bytes particle_size length_particle f.particles)

  pub particles_at_lem : particles_in bs ≡ each particle_bytes f.particles
  unfolding particle_body shape_of
  particles_at_lem = ap₂ (λ (k : ℕ) (l : Bytes). take k l) particles_long others_at
      ∙ take-append_seam (each particle_bytes f.particles) (each (attribute_bytes w) f.attributes ++ each (row_bytes w) f.rows)

  rest_at : drop (header_size + definition_size * definition_count bs + particle_size * particle_count bs) bs ≡ each (attribute_bytes w) f.attributes ++ each (row_bytes w) f.rows
  rest_at =
      sym (drop-drop (particle_size * particle_count bs) (header_size + definition_size * definition_count bs) bs)
      ∙ ap₂ (λ (k : ℕ) (l : Bytes). drop k l) particles_long others_at
      ∙ drop-append_seam (each particle_bytes f.particles) (each (attribute_bytes w) f.attributes ++ each (row_bytes w) f.rows)

  pub attributes_at : attributes_in bs ≡ each (attribute_bytes (width_of bs)) f.attributes
  unfolding attribute_body attributes_start shape_of
  attributes_at =
      ap₂ (λ (k : ℕ) (l : Bytes). take k l)
      (ap (λ (k : ℕ). attribute_size w * k) x.attributes ∙ sym (length_each (attribute_bytes w) (attribute_size w) (length_attribute w) f.attributes))
      rest_at
      ∙ take-append_seam (each (attribute_bytes w) f.attributes) (each (row_bytes w) f.rows)
