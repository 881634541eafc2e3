-- What change 2 leaves of each body, and where it is read.
use Prim.Native.Nat.{ℕ, zero, suc, ◌+◌, ◌-◌, ◌<◌, ◌≤◌}
use native.Mathlib.Omega.{arith}
use native.Mathlib.Numerals.{add-one}
use mathlib.Core.Path.{◌≡◌, refl, sym, ap, ◌∙◌}
use mathlib.Core.Bool.{Bool, true, false}
use mathlib.Core.List.{List, [], ◌∷◌, map}
use lib.Dec.{ltb}
use lib.ListN.{length, take, drop, get_or, length-append, length-map, length-take, length-drop}
use lib.Seq.{length-take-le}
use borrow.Author.Tests.{ltb-true, ltb-false}
use Rattle.rules.specs.Bytes.{Bytes}
use Rattle.rules.specs.Store.{Form}
use Rattle.rules.specs.Layout.{definition_size, particle_size, attribute_size, row_size, FlatDefinition, FlatAttribute, FlatStore, content_particles, flat_definition, all_particles}
use Rattle.rules.specs.Decode.{number_at, read_definition, read_particle, read_attribute, read_row, read_many, definition_count, particle_count, attribute_count, row_count}
use Rattle.rules.specs.Passing.{passes}
use Rattle.codec.specs.Laid.{Laid}
use Rattle.codec.proofs.Writers.{laid_as}
use Rattle.codec.proofs.Records.{many_at}
use Rattle.form_index.specs.Reading.{definition_in, particles_before}
use Rattle.store_check.specs.Reading.{no_flat_definition}
use Rattle.lookup.specs.Bodies.{bodies_of}
use Rattle.layout.specs.Bodies.{width_of, WidthIn, Number, definitions_in, particles_in, attributes_in, tree_rows_in}
use Rattle.layout.specs.Header.{headed}
use Rattle.layout.proofs.LayoutLaws as layout
use Rattle.store_laws.specs.Stores.{store_in}
use Rattle.store_laws.proofs.StoreLaws.{holds}
use Rattle.definition_writer.specs.Bodies.{moved_particle, moved_row}
use Rattle.definition_removal.specs.Bodies.{lowered, cut_out, particles_up_to, one_below, attributes_up_to, moved_attribute, CountWithin, Between, destroyed, header_left}
use Rattle.store_laws.proofs.Encoded.{Encoded, encoded}
use Rattle.layout.specs.Fields.{next_at}
use Rattle.std.specs.declared.ops.Range.{Range}

-- ---- the bodies, read
module _ (bs : Bytes) where
  own_definitions : (bodies_of bs).definitions ≡ read_many read_definition definition_size (definition_count bs) (definitions_in bs)
  unfolding bodies_of
  own_definitions = sym (layout.definitions_read_lem bs)

  pub particles_read_lem : (bodies_of bs).particles ≡ read_many read_particle particle_size (particle_count bs) (particles_in bs)
  unfolding bodies_of
  particles_read_lem = sym (layout.particles_read_lem bs)

  pub attributes_read : (bodies_of bs).attributes ≡ read_many read_attribute (attribute_size (width_of bs)) (attribute_count bs) (attributes_in bs)
  unfolding bodies_of
  attributes_read = sym (layout.attributes_read bs)

  pub rows_read_lem : (bodies_of bs).rows ≡ read_many read_row (row_size (width_of bs)) (row_count bs) (tree_rows_in bs)
  unfolding bodies_of
  rows_read_lem = sym (layout.rows_read_lem bs)

-- ---- how many particles and attributes the first definitions have
particles_more : (i : ℕ) (ds : List FlatDefinition) → particles_up_to (suc i) ds ≡ particles_up_to i ds + (get_or ds i no_flat_definition).particles
unfolding particles_up_to
particles_more zero [] = refl
particles_more zero (d ∷ ds) = omega arith
particles_more (suc i) [] = refl
particles_more (suc i) (d ∷ ds) = omega (arith, particles_more i ds)

pub particles_step : (i : ℕ) (ds : List FlatDefinition) → particles_up_to i ds ≤ particles_up_to (suc i) ds
particles_step i ds = omega (arith, particles_more i ds)

particles_before_lem : (count : ℕ) (defs : Bytes) (i : ℕ) → i ≤ count → particles_before defs i ≡ particles_up_to i (read_many read_definition definition_size count defs)
unfolding particles_before particles_up_to
particles_before_lem count defs zero h = refl
particles_before_lem count defs (suc i) h =
    let e : get_or (read_many read_definition definition_size count defs) i no_flat_definition ≡ definition_in defs i = many_at read_definition definition_size i count defs no_flat_definition (omega arith) in
    omega (arith, particles_before_lem count defs i (omega arith), particles_more i (read_many read_definition definition_size count defs), ap (λ (d : FlatDefinition). d.particles) e)

particles_most : (F : Form) (i : ℕ) (ds : Form) → particles_up_to i (map (flat_definition F) ds) ≤ length (all_particles F ds)
unfolding particles_up_to
particles_most F zero ds = omega arith
particles_most F (suc i) [] = omega arith
particles_most F (suc i) (d ∷ ds) = omega (arith, particles_most F i ds, length-append (content_particles F d.content) (all_particles F ds))

pub particles_within : (bs : Bytes) → passes bs ≡ true → (i : ℕ) → particles_up_to i (bodies_of bs).definitions ≤ length (bodies_of bs).particles
particles_within bs p i = rw (holds bs p).bodies (particles_most (store_in bs).form i (store_in bs).form)

pub model_starts : (bs : Bytes) → passes bs ≡ true → (i : ℕ) → i ≤ definition_count bs → {r : ℕ} {defs : Bytes} → defs ≡ definitions_in bs → r ≡ particles_before defs i
    → CountWithin (particles_up_to i (bodies_of bs).definitions) (particle_count bs) r
model_starts bs p i h {r} d e =
    let z : particles_before (definitions_in bs) i ≡ particles_up_to i (bodies_of bs).definitions = particles_before_lem (definition_count bs) (definitions_in bs) i h
    ∙ ap (particles_up_to i) (sym (own_definitions bs)) in
    let q : r ≡ particles_before (definitions_in bs) i = e ∙ ap (λ (l : Bytes). particles_before l i) d in
    record { is = q ∙ z; most = omega (arith, q, z, particles_within bs p i, (encoded bs p).particles) }

below_step : (i : ℕ) (a : FlatAttribute) → one_below i a ≤ one_below (suc i) a
below_step i a = by (ltb a.owner i) refl (ltb a.owner (suc i)) refl
  where
    by : (b : Bool) → ltb a.owner i ≡ b → (c : Bool) → ltb a.owner (suc i) ≡ c → elim b as (λ z. ℕ) [ true ↦ 1 | false ↦ 0 ] ≤ elim c as (λ z. ℕ) [ true ↦ 1 | false ↦ 0 ]
    by true e true q = omega arith
    by true e false q = absurd (omega (arith, ltb-true a.owner i e, ltb-false a.owner (suc i) q))
    by false e c q = omega arith

pub attributes_step : (i : ℕ) (cs : List FlatAttribute) → attributes_up_to i cs ≤ attributes_up_to (suc i) cs
unfolding attributes_up_to
attributes_step i [] = omega arith
attributes_step i (a ∷ cs) = omega (arith, below_step i a, attributes_step i cs)

below_one : (i : ℕ) (a : FlatAttribute) → one_below i a ≤ 1
below_one i a = by (ltb a.owner i)
  where
    by : (b : Bool) → elim b as (λ z. ℕ) [ true ↦ 1 | false ↦ 0 ] ≤ 1
    by true = omega arith
    by false = omega arith

pub attribute_starts : (bs : Bytes) (i : ℕ) {w count : ℕ} {body : Bytes} {r : ℕ} → WidthIn bs w → Number (attribute_count bs) count → body ≡ attributes_in bs
    → CountWithin (attributes_up_to i (read_many read_attribute (attribute_size w) count body)) count r
    → CountWithin (attributes_up_to i (bodies_of bs).attributes) (attribute_count bs) r
attribute_starts bs i w e q c =
    record {
      is = c.is ∙ (λ j. attributes_up_to i (read_many read_attribute (attribute_size (w.value j)) (e.value j) (q j))) ∙ sym (ap (attributes_up_to i) (attributes_read bs));
      most = omega (arith, c.most, e.value);
    }

pub between : (P : ℕ → ℕ) (i all : ℕ) → P i ≤ P (suc i) → {a b : ℕ} → CountWithin (P i) all a → CountWithin (P (i + 1)) all b
    → Between P i all (record { start = a; end = b })
between P i all step c d =
    let e = d.is ∙ ap P (add-one i) in
    record { first = c; past = record { is = e; most = d.most }; order = omega (arith, c.is, e, step) }

-- ---- lengths
cut_most : {A : Type 0} (a n : ℕ) (xs : List A) → length (cut_out a n xs) ≤ length xs
unfolding cut_out
cut_most a n xs = omega (arith, length-append (take a xs) (drop (a + n) xs), length-take a xs, length-drop (a + n) xs)

length_cut : {A : Type 0} (a b : ℕ) (xs : List A) → a ≤ b → b ≤ length xs → length (cut_out a (b - a) xs) ≡ length xs - (b - a)
unfolding cut_out
length_cut a b xs h k = omega (arith, length-append (take a xs) (drop (a + (b - a)) xs), length-take-le a xs (omega arith), length-drop (a + (b - a)) xs)

-- what is left of a body without a definition's records, each moved
module _ {A : Type 0} (move : A → A) (xs : List A) (few : ℕ) (l : length xs ≤ few) where
  left_counted : (P : ℕ → ℕ) (i : ℕ) {all n m : ℕ} {r : Range ℕ} → all ≡ length xs → Number all n → Between P i all r → m ≡ n - (r.end - r.start)
      → CountWithin (length (map move (cut_out (P i) (P (suc i) - P i) xs))) few m
  left_counted P i k e s w =
      let z : length (map move (cut_out (P i) (P (suc i) - P i) xs)) ≡ length xs - (P (suc i) - P i) =
      length-map (cut_out (P i) (P (suc i) - P i) xs) move
      ∙ length_cut (P i) (P (suc i)) xs (omega (arith, s.order, s.first.is, s.past.is)) (omega (arith, s.past.is, s.past.most, k)) in
      record { is = omega (arith, w, z, e.value, s.first.is, s.past.is, k); most = omega (arith, w, e.value, k, l) }

  left_few : (a n : ℕ) → length (map move (cut_out a n xs)) ≤ few
  left_few a n = omega (arith, length-map (cut_out a n xs) move, cut_most a n xs, l)

module _ (bs : Bytes) (p : passes bs ≡ true) (i : ℕ) (h : i < definition_count bs) where
  abbrev f : FlatStore
  f = bodies_of bs

  abbrev x : Encoded bs (bodies_of bs)
  x = encoded bs p

  pub definitions_left : length (destroyed i f).definitions ≡ definition_count bs - 1
  unfolding destroyed
  definitions_left =
      let e : suc i - i ≡ 1 = omega arith in
      ap (λ (k : ℕ). length (cut_out i k f.definitions)) (sym e) ∙ length_cut i (suc i) f.definitions (omega arith) (omega (arith, x.definitions)) ∙ omega (arith, x.definitions)

  pub models_left : {n m : ℕ} {r : Range ℕ} → Number (particle_count bs) n → Between (λ (k : ℕ). particles_up_to k f.definitions) i (particle_count bs) r
      → m ≡ n - (r.end - r.start) → CountWithin (length (destroyed i f).particles) 256 m
  unfolding destroyed
  models_left e s w = left_counted (moved_particle (lowered (suc i) 1)) f.particles 256 x.few_particles (λ (k : ℕ). particles_up_to k f.definitions) i x.particles e s w

  pub attributes_left : {n m : ℕ} {r : Range ℕ} → Number (attribute_count bs) n → Between (λ (k : ℕ). attributes_up_to k f.attributes) i (attribute_count bs) r
      → m ≡ n - (r.end - r.start) → CountWithin (length (destroyed i f).attributes) 64 m
  unfolding destroyed
  attributes_left e s w = left_counted (moved_attribute (lowered (suc i) 1)) f.attributes 64 x.few_attributes (λ (k : ℕ). attributes_up_to k f.attributes) i x.attributes e s w

  pub rows_left_lem : length (destroyed i f).rows ≡ row_count bs
  unfolding destroyed
  rows_left_lem = length-map f.rows (moved_row (lowered (suc i) 1) (lowered (attributes_up_to (suc i) f.attributes) (attributes_up_to (suc i) f.attributes - attributes_up_to i f.attributes)))
      ∙ sym x.rows

  pub few_particles : length (destroyed i f).particles ≤ 256
  unfolding destroyed
  few_particles = left_few (moved_particle (lowered (suc i) 1)) f.particles 256 x.few_particles _ _

  pub few_attributes : length (destroyed i f).attributes ≤ 64
  unfolding destroyed
  few_attributes = left_few (moved_attribute (lowered (suc i) 1)) f.attributes 64 x.few_attributes _ _

  pub header_left_lem : {d m n : ℕ} {out out₁ : Bytes} {at : ℕ} → Number (definition_count bs) d → CountWithin (length (destroyed i f).particles) 256 m
      → CountWithin (length (destroyed i f).attributes) 64 n
      → Laid (headed (width_of bs) (number_at next_at 4 bs) (d - 1) m n (row_count bs) bs) out 0 at out₁ → Laid (header_left i bs) out 0 at out₁
  header_left_lem ed em en l =
      laid_as (λ j. headed (width_of bs) (number_at next_at 4 bs) ((definitions_left ∙ ap (λ (k : ℕ). k - 1) (sym ed.value)) j) (sym em.is j) (sym en.is j) (rows_left_lem j) bs) l
