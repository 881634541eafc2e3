-- The bytes of a store with another form and other rows.
use Prim.Native.Nat.{ℕ, ◌+◌, ◌*◌, ◌≤◌}
use native.Mathlib.Omega.{arith}
use mathlib.Core.Path.{◌≡◌, refl, ap, ◌∙◌, sym}
use mathlib.Core.Bool.{true, ◌&&◌}
use mathlib.Core.List.{List, ◌++◌, append_assoc}
use lib.Dec.{leb}
use borrow.Author.Tests.{leb-true}
use lib.ListN.{length, drop, length-append}
use Rattle.rules.specs.Bytes.{Bytes, all}
use Rattle.rules.specs.Preorder.{Deep}
use Rattle.rules.specs.Layout.{value_width, header_size, definition_size, particle_size, attribute_size, row_size, FlatParticle, FlatRow, FlatStore, definition_bytes}
use Rattle.rules.specs.Layout.{particle_bytes, attribute_bytes, row_bytes, each, flat_bytes}
use Rattle.rules.specs.Decode.{read_definition, read_particle, read_attribute}
use Rattle.rules.specs.WellFormed.{within_ceilings}
use Rattle.rules.proofs.Words.{and_split}
use Rattle.rules.proofs.LayoutLaws.{length_definition, length_particle, length_attribute, length_each, length_flat_bytes}
use Rattle.layout.specs.Bodies.{width_of, most_form}
use Rattle.layout.specs.Header.{contents, headed}
use Rattle.layout.proofs.HeaderLaws.{attributes_short}
use Rattle.lookup.specs.Bodies.{bodies_of}
use Rattle.store_laws.specs.Forms.{form_bytes, form_read, reformed, Forms}
use Rattle.store_laws.proofs.StoreLaws.{Holds, width_of_bodies}
use Rattle.codec.proofs.Records.{length_many}

-- ---- a form by its bytes
pub length_form : (w : ℕ) (g : FlatStore) → length (form_bytes w g) ≡ definition_size * length g.definitions + (particle_size * length g.particles + attribute_size w * length g.attributes)
length_form w g =
    omega (
      arith,
      length-append (each definition_bytes g.definitions) (each particle_bytes g.particles ++ each (attribute_bytes w) g.attributes),
      length-append (each particle_bytes g.particles) (each (attribute_bytes w) g.attributes),
      length_each definition_bytes definition_size length_definition g.definitions,
      length_each particle_bytes particle_size length_particle g.particles,
      length_each (attribute_bytes w) (attribute_size w) (length_attribute w) g.attributes,
    )

pub form_then : (w : ℕ) (g : FlatStore) (rest : Bytes)
    → each definition_bytes g.definitions ++ (each particle_bytes g.particles ++ (each (attribute_bytes w) g.attributes ++ rest)) ≡ form_bytes w g ++ rest
form_then w g rest =
    let d : Bytes = each definition_bytes g.definitions in
    let p : Bytes = each particle_bytes g.particles in
    let a : Bytes = each (attribute_bytes w) g.attributes in
    sym (append_assoc d (p ++ a) rest ∙ ap (λ (l : Bytes). d ++ l) (append_assoc p a rest))

module _ (w : ℕ) (form : Bytes) (d p a : ℕ) where
  pub count_definitions : length (form_read w form d p a).definitions ≡ d
  unfolding form_read
  count_definitions = length_many read_definition definition_size d form

  pub count_particles : length (form_read w form d p a).particles ≡ p
  unfolding form_read
  count_particles = length_many read_particle particle_size p (drop (definition_size * d) form)

  pub count_attributes : length (form_read w form d p a).attributes ≡ a
  unfolding form_read
  count_attributes = length_many read_attribute (attribute_size w) a (drop (particle_size * p) (drop (definition_size * d) form))

-- what the ceilings allow of a store
pub record Few (g : FlatStore) : Type 0 where
  pub definitions : leb (length g.definitions) 64 ≡ true
  pub particles : leb (length g.particles) 256 ≡ true
  pub depths : all (λ (p : Deep FlatParticle). leb p.depth 4) g.particles ≡ true
  pub attributes : leb (length g.attributes) 64 ≡ true
  pub rows : leb (length g.rows) 4096 ≡ true

pub few_of : (g : FlatStore) → within_ceilings g ≡ true → Few g
few_of g h =
    let (a, h₁) = and_split (leb (length g.definitions) 64) _ h in
    let (b, h₂) = and_split (leb (length g.particles) 256) _ h₁ in
    let (c, h₃) = and_split (all (λ (p : Deep FlatParticle). leb p.depth 4) g.particles) _ h₂ in
    let (d, e) = and_split (leb (length g.attributes) 64) _ h₃ in
    record { definitions = a; particles = b; depths = c; attributes = d; rows = e }

module _ {g : FlatStore} (x : Few g) where
  pub few_definitions : length g.definitions ≤ 64
  few_definitions = leb-true (length g.definitions) 64 x.definitions

  pub few_particles : length g.particles ≤ 256
  few_particles = leb-true (length g.particles) 256 x.particles

  pub few_attributes : length g.attributes ≤ 64
  few_attributes = leb-true (length g.attributes) 64 x.attributes

  pub few_rows : length g.rows ≤ 4096
  few_rows = leb-true (length g.rows) 4096 x.rows

-- ---- a store with the form of g and other rows
pub whole : {bs : Bytes} → Holds bs → flat_bytes (width_of bs) (bodies_of bs) ≡ bs
whole {bs} h =
    ap (λ (w : ℕ). flat_bytes w (bodies_of bs)) (sym (width_of_bodies bs)) ∙ ap (λ (f : FlatStore). flat_bytes (value_width f.version) f) h.bodies ∙ h.written

pub ceilings_rows : (f g : FlatStore) (next : ℕ) (rows : List (Deep FlatRow)) → within_ceilings g ≡ true → within_ceilings (reformed f g next rows) ≡ leb (length rows) 4096
ceilings_rows f g next rows h = let x : Few g = few_of g h in λ i. x.definitions i && (x.particles i && (x.depths i && (x.attributes i && leb (length rows) 4096)))

module _ {w : ℕ} {form : Bytes} {d p a : ℕ} (x : Forms w form d p a) (f : FlatStore) (next : ℕ) (rows : List (Deep FlatRow)) where
  abbrev g : FlatStore
  g = form_read w form d p a

  pub reformed_length : length (flat_bytes w (reformed f g next rows)) ≡ header_size + length form + row_size w * length rows
  reformed_length = omega (arith, length_flat_bytes w (reformed f g next rows), length_form w g, ap length x.written)

  headed_bytes : flat_bytes w (reformed f g next rows)
      ≡ headed w next (length g.definitions) (length g.particles) (length g.attributes) (length rows) (flat_bytes w f)
      ++ (each definition_bytes g.definitions
      ++ (each particle_bytes g.particles ++ (each (attribute_bytes w) g.attributes ++ each (row_bytes w) rows)))
  unfolding headed contents
  headed_bytes = refl

  -- bs: the bytes of f
  pub reformed_bytes : {bs : Bytes} → flat_bytes w f ≡ bs → flat_bytes w (reformed f g next rows) ≡ (headed w next d p a (length rows) bs ++ form) ++ each (row_bytes w) rows
  reformed_bytes {bs} e =
      headed_bytes
      ∙ (λ i.
      headed w next (count_definitions w form d p a i) (count_particles w form d p a i) (count_attributes w form d p a i) (length rows) (e i) ++ form_then w g (each (row_bytes w) rows) i)
      ∙ ap (λ (l : Bytes). headed w next d p a (length rows) bs ++ (l ++ each (row_bytes w) rows)) x.written
      ∙ sym (append_assoc (headed w next d p a (length rows) bs) form (each (row_bytes w) rows))

-- ---- as the code writes them
module _ {w : ℕ} {form : Bytes} {d p a : ℕ} (x : Forms w form d p a) where
  few : Few (form_read w form d p a)
  few = few_of (form_read w form d p a) x.ceilings

  -- the widest value that a version has is 96 bytes long
  pub form_short : w ≤ 96 → length form ≤ most_form
  form_short h =
      omega (
        arith,
        ap length x.written,
        length_form w (form_read w form d p a),
        few_definitions few,
        few_particles few,
        attributes_short w (length (form_read w form d p a).attributes) h (few_attributes few),
      )
