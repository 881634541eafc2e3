-- The bytes of a form are read back as it.
use Prim.Native.Nat.{ℕ, ◌+◌, ◌-◌, ◌*◌, ◌≤◌}
use native.Mathlib.Omega.{arith}
use mathlib.Core.Path.{◌≡◌, ap, ◌∙◌, sym, subst}
use mathlib.Core.Bool.{true}
use mathlib.Core.List.{[], ◌++◌, append-nil}
use lib.Dec.{lit<}
use lib.ListN.{length, take, drop}
use lib.Seq.{take_at}
use Rattle.rules.specs.Bytes.{Bytes}
use Rattle.rules.specs.Layout.{value_width, header_size, definition_size, particle_size, attribute_size, FlatStore, flat, definition_bytes, particle_bytes, attribute_bytes, row_bytes, each}
use Rattle.rules.specs.Decode.{read_definition, read_particle, read_attribute, read_bodies, definition_count, particle_count, attribute_count}
use Rattle.rules.specs.WellFormed.{within_ceilings}
use Rattle.rules.specs.Passing.{good, known_version}
use Rattle.rules.proofs.Words.{and_split}
use Rattle.rules.proofs.BooleanLaws.{Every}
use Rattle.rules.proofs.LayoutLaws.{GoodFlatDefinition, GoodFlatAttribute, GoodFlat, unle_le, read_bytes, length_flat_bytes}
use Rattle.rules.proofs.DecodeLaws.{good_flat}
use Rattle.lookup.specs.Bodies.{bodies_of, rows_start_in, RowsBegin}
use Rattle.layout.specs.Bodies.{width_of, Number}
use Rattle.store_laws.specs.Stores.{store_in}
use Rattle.store_laws.specs.Forms.{form_bytes, form_read, bare_form, Forms}
use Rattle.store_laws.proofs.StoreLaws.{Holds, width_of_bodies}
use Rattle.store_laws.proofs.FormBytesLaws.{Few, few_of, few_definitions, few_particles, few_attributes, form_then, length_form, whole, ceilings_rows}
use Rattle.codec.proofs.Records.{length_many}

-- the bytes are those of the form of g, of d definitions, p particles and a attributes, whose fields hold what it has
pub record FormOf (w : ℕ) (g : FlatStore) (form : Bytes) (d p a : ℕ) : Type 0 where
  pub bytes : form ≡ form_bytes w g
  pub definition_count : d ≡ length g.definitions
  pub particle_count : p ≡ length g.particles
  pub attribute_count : a ≡ length g.attributes
  pub definitions : Every GoodFlatDefinition g.definitions
  pub attributes : Every (GoodFlatAttribute w) g.attributes
  pub ceilings : within_ceilings (bare_form g) ≡ true

module _ {w : ℕ} {g : FlatStore} {form : Bytes} {d p a : ℕ} (x : FormOf w g form d p a) where
  few : Few (bare_form g)
  few = few_of (bare_form g) x.ceilings

  fine : GoodFlat w (bare_form g)
  fine =
      record {
        version = lit< tt;
        next = lit< tt;
        definition_count = omega (arith, few_definitions few);
        particle_count = omega (arith, few_particles few);
        attribute_count = omega (arith, few_attributes few);
        row_count = lit< tt;
        definitions = x.definitions;
        attributes = x.attributes;
        rows = tt;
      }

  read_again : read_bodies w 0 0 (length g.definitions) (length g.particles) (length g.attributes) 0 (form_bytes w g) ≡ bare_form g
  read_again =
      sym
      (λ i.
      read_bodies w 0 0 (unle_le 4 (length g.definitions) fine.definition_count i) (unle_le 4 (length g.particles) fine.particle_count i)
      (unle_le 4 (length g.attributes) fine.attribute_count i) 0
      (each definition_bytes g.definitions ++ (each particle_bytes g.particles ++ append-nil (each (attribute_bytes w) g.attributes) i)))
      ∙ read_bytes w (bare_form g) fine

  pub read_form_lem : form_read w form d p a ≡ bare_form g
  unfolding form_read
  read_form_lem = (λ i. read_bodies w 0 0 (x.definition_count i) (x.particle_count i) (x.attribute_count i) 0 (x.bytes i)) ∙ read_again

  pub forms_of : Forms w form d p a
  forms_of = record { written = ap (form_bytes w) read_form_lem ∙ sym x.bytes; ceilings = ap within_ceilings read_form_lem ∙ x.ceilings }

-- ---- the form of a store that passes
pub within : {bs : Bytes} → Holds bs → within_ceilings (bodies_of bs) ≡ true
unfolding good
within {bs} h =
    let (v, g) = and_split (known_version (store_in bs).version) _ h.good in
    ap within_ceilings h.bodies ∙ (and_split (within_ceilings (flat (store_in bs))) _ g).0

module _ (bs : Bytes) where
  pub counted_definitions : definition_count bs ≡ length (bodies_of bs).definitions
  unfolding bodies_of width_of
  counted_definitions = sym (length_many read_definition definition_size (definition_count bs) _)

  pub counted_particles : particle_count bs ≡ length (bodies_of bs).particles
  unfolding bodies_of width_of
  counted_particles = sym (length_many read_particle particle_size (particle_count bs) _)

  pub counted_attributes : attribute_count bs ≡ length (bodies_of bs).attributes
  unfolding bodies_of width_of
  counted_attributes = sym (length_many read_attribute (attribute_size (width_of bs)) (attribute_count bs) _)

  start_is : rows_start_in bs ≡ header_size + length (form_bytes (width_of bs) (bodies_of bs))
  unfolding rows_start_in
  start_is =
      let e : attribute_size (width_of bs) * attribute_count bs ≡ attribute_size (width_of bs) * length (bodies_of bs).attributes = ap (λ (n : ℕ). attribute_size (width_of bs) * n) counted_attributes in
      omega (arith, length_form (width_of bs) (bodies_of bs), counted_definitions, counted_particles, e)

form_at_lem : {bs : Bytes} → Holds bs → take (rows_start_in bs - header_size) (drop header_size bs) ≡ form_bytes (width_of bs) (bodies_of bs)
form_at_lem {bs} h =
    let f : FlatStore = bodies_of bs in
    let w : ℕ = width_of bs in
    let e : length (form_bytes w f) ≡ rows_start_in bs - header_size = omega (arith, start_is bs) in
    ap (λ (l : Bytes). take (rows_start_in bs - header_size) (drop header_size l)) (sym (whole h)) ∙ ap (take (rows_start_in bs - header_size)) (form_then w f (each (row_bytes w) f.rows))
    ∙ take_at (form_bytes w f) (each (row_bytes w) f.rows) (rows_start_in bs - header_size) e

pub good_bodies : {bs : Bytes} → Holds bs → GoodFlat (width_of bs) (bodies_of bs)
good_bodies {bs} h =
    subst (λ (w : ℕ). GoodFlat w (bodies_of bs)) (width_of_bodies bs)
    (subst (λ (f : FlatStore). GoodFlat (value_width f.version) f) (sym h.bodies) (good_flat (store_in bs) h.good))

-- `head` and `start`: where the code finds that the form begins and ends
pub own_form : {bs : Bytes} → Holds bs → {head start d p a : ℕ} → head ≡ header_size → RowsBegin bs start → Number (definition_count bs) d
    → Number (particle_count bs) p → Number (attribute_count bs) a → FormOf (width_of bs) (bodies_of bs) (take (start - head) (drop head bs)) d p a
own_form {bs} h e b n m k =
    let w : GoodFlat (width_of bs) (bodies_of bs) = good_bodies h in
    record {
      bytes = (λ i. take (b.start i - e i) (drop (e i) bs)) ∙ form_at_lem h;
      definition_count = n.value ∙ counted_definitions bs;
      particle_count = m.value ∙ counted_particles bs;
      attribute_count = k.value ∙ counted_attributes bs;
      definitions = w.definitions;
      attributes = w.attributes;
      ceilings = ceilings_rows (bare_form (bodies_of bs)) (bodies_of bs) 0 [] (within h);
    }

pub start_within : {bs : Bytes} → Holds bs → {start : ℕ} → RowsBegin bs start → (header_size ≤ start) × (start ≤ length bs)
start_within {bs} h b = (
  omega (arith, b.start, start_is bs),
  omega (arith, b.start, start_is bs, ap length (whole h), length_form (width_of bs) (bodies_of bs), length_flat_bytes (width_of bs) (bodies_of bs)),
)
