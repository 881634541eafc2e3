-- A byte string whose header and records fit is what its reading is written
-- as, and a store that passes is written so that they fit.
use Prim.Native.Nat.{ℕ, zero, suc, ◌+◌, ◌*◌, ◌≤◌, ◌<◌}
use native.Mathlib.Nat.{mul-le-mul}
use native.Mathlib.Omega.{arith}
use mathlib.Core.Path.{◌≡◌, refl, ap, ap₂, ◌∙◌, sym, subst}
use mathlib.Core.Logic.{◌↔◌}
use mathlib.Core.Bool.{true, ◌&&◌, ◌||◌}
use mathlib.Core.List.{List, [], ◌∷◌, ◌++◌, map}
use lib.Dec.{eqb, leb, lit<}
use lib.ListN.{length, drop, length-drop, length-map}
use lib.Seq.{drop-drop, drop_at}
use borrow.Author.Tests.{leb-true, eqb-true, le-leb, eq-eqb}
use Rattle.rules.specs.declared.AttributeSort.{AttributeSort}
use Rattle.rules.specs.declared.AttributeSort.TheVariants.{Implied, Required, Fixed}
use Rattle.rules.specs.Bytes.{Bytes, is_none}
use Rattle.rules.specs.Preorder.{Deep, preorder}
use Rattle.rules.specs.Store.{Content, empty, pcdata, complex, Attribute, Form, RowSort, element, attribute, text, Row, Forest, bare, tree, Store}
use Rattle.rules.specs.Layout.{value_width, le, FlatRow, FlatStore, header_size, definition_size, particle_size, attribute_size, row_size, definition_bytes}
use Rattle.rules.specs.Layout.{particle_bytes, attribute_bytes, row_bytes, each, entry, flat_bytes, kind_code, sort_code, row_code, content_particles, flat_definition}
use Rattle.rules.specs.Layout.{own_attributes, all_attributes, row_index, indexed, flat, encode}
use Rattle.rules.specs.Decode.{number_at, read_definition, read_particle, read_attribute, read_row, definition_count, particle_count, attribute_count, row_count, read_flat, sized, sort_of}
use Rattle.rules.specs.WellFormed.{stored_name, is_value, is_fill, is_attribute_of}
use Rattle.rules.specs.Conforming.{EveryRow}
use Rattle.rules.specs.Passing.{known_version, laid_row, good}
use Rattle.rules.proofs.Words.{and_both, and_split}
use Rattle.rules.proofs.BooleanLaws.{Every, every_map, every_append, every_zip, none_nil}
use Rattle.rules.proofs.LayoutLaws.{Small, unle_le, GoodFlatDefinition, GoodFlatAttribute, GoodFlatRow, GoodFlat, length_definition, length_particle}
use Rattle.rules.proofs.LayoutLaws.{length_attribute, length_row, length_each, length_flat_bytes, sized_bytes}
use Rattle.rules.proofs.DecodeLaws.{version_bound, width_bound, GoodParts, good_parts, DefinitionParts, every_definition, good_flat, value_width_lem, name_width_lem}
use Rattle.layout.specs.Fields.{version_at, next_at, definition_entry_at, definition_count_at, particle_entry_at, particle_count_at, attribute_entry_at, attribute_count_at, row_entry_at, row_count_at}
use Rattle.records.specs.Records.{definition_fits, attribute_fits, row_fits, each_fits, at_particles, at_attributes, at_rows, records_fit, counts_fit, offsets_fit, header_fits}
use Rattle.records.proofs.RecordLaws.{small_drop, number_then, number_bound, FittingDefinition, definition_canonical, definition_fields}
use Rattle.records.proofs.RecordLaws.{definition_fits_lem, particle_canonical, FittingAttribute, attribute_canonical, attribute_fields, attribute_fits_lem}
use Rattle.records.proofs.RecordLaws.{FittingRow, row_canonical, row_fields, row_fits_lem, body_then, body_canonical, body_fields, body_fits}
use Rattle.records.proofs.RecordLaws.{body_fits_whole}
use Rattle.codec.proofs.Records.{length_many}

-- ---- the header
pub record FittingHeader (w : ℕ) (bs : Bytes) : Type 0 where
  pub whole : header_size ≤ length bs
  pub version : known_version (number_at version_at 4 bs) ≡ true
  pub few_definitions : definition_count bs ≤ 64
  pub few_particles : particle_count bs ≤ 256
  pub few_attributes : attribute_count bs ≤ 64
  pub few_rows : row_count bs ≤ 4096
  pub definitions_at : number_at definition_entry_at 4 bs ≡ header_size
  pub particles_at : number_at particle_entry_at 4 bs ≡ at_particles bs
  pub attributes_at : number_at attribute_entry_at 4 bs ≡ at_attributes bs
  pub rows_at : number_at row_entry_at 4 bs ≡ at_rows w bs
  pub size : length bs ≡ at_rows w bs + row_size w * row_count bs
  pub next : 1 ≤ number_at next_at 4 bs

pub header_fields : (w : ℕ) (bs : Bytes) → header_fits w bs ≡ true → FittingHeader w bs
unfolding header_fits counts_fit offsets_fit
header_fields w bs h =
    let (l, h₁) = and_split (leb header_size (length bs)) _ h in
    let (v, h₂) = and_split (known_version (number_at version_at 4 bs)) _ h₁ in
    let (c, h₃) = and_split (counts_fit bs) _ h₂ in
    let (o, h₄) = and_split (offsets_fit w bs) _ h₃ in
    let (s, n) = and_split (sized w bs) (leb 1 (number_at next_at 4 bs)) h₄ in
    let (c₀, c₁) = and_split (leb (definition_count bs) 64) _ c in
    let (c₂, c₃) = and_split (leb (particle_count bs) 256) _ c₁ in
    let (c₄, c₅) = and_split (leb (attribute_count bs) 64) (leb (row_count bs) 4096) c₃ in
    let (o₀, o₁) = and_split (eqb (number_at definition_entry_at 4 bs) header_size) _ o in
    let (o₂, o₃) = and_split (eqb (number_at particle_entry_at 4 bs) (at_particles bs)) _ o₁ in
    let (o₄, o₅) = and_split (eqb (number_at attribute_entry_at 4 bs) (at_attributes bs)) (eqb (number_at row_entry_at 4 bs) (at_rows w bs)) o₃ in
    let z : length bs ≡ header_size + (definition_size * definition_count bs + (particle_size * particle_count bs + (attribute_size w * attribute_count bs + row_size w * row_count bs))) = eqb-true _ _ s in
    record {
      whole = leb-true _ _ l;
      version = v;
      few_definitions = leb-true _ _ c₀;
      few_particles = leb-true _ _ c₂;
      few_attributes = leb-true _ _ c₄;
      few_rows = leb-true _ _ c₅;
      definitions_at = eqb-true _ _ o₀;
      particles_at = eqb-true _ _ o₂;
      attributes_at = eqb-true _ _ o₄;
      rows_at = eqb-true _ _ o₅;
      size = omega arith;
      next = leb-true _ _ n;
    }

-- ---- a string that fits is what its reading is written as
-- the string of counts, numbers and bodies
abbrev written : ℕ → ℕ → ℕ → ℕ → ℕ → ℕ → ℕ → Bytes → Bytes
written w version next d p a r bodies =
    le 4 version
    ++ (le 4 next
    ++ (entry header_size d
    ++ (entry (header_size + definition_size * d) p
    ++ (entry (header_size + definition_size * d + particle_size * p) a ++ (entry (header_size + definition_size * d + particle_size * p + attribute_size w * a) r ++ bodies)))))

any_particle : (count : ℕ) (bs : Bytes) → each_fits (λ x. true) particle_size count bs ≡ true
unfolding each_fits
any_particle zero bs = refl
any_particle (suc count) bs = any_particle count (drop particle_size bs)

-- the parts of the test
record BodyParts (w : ℕ) (bs : Bytes) : Type 0 where
  definitions : each_fits definition_fits definition_size (definition_count bs) (drop header_size bs) ≡ true
  attributes : each_fits (attribute_fits w (definition_count bs)) (attribute_size w) (attribute_count bs) (drop (at_attributes bs) bs) ≡ true
  rows : each_fits (row_fits w) (row_size w) (row_count bs) (drop (at_rows w bs) bs) ≡ true

body_parts : (w : ℕ) (bs : Bytes) → records_fit w bs ≡ true → BodyParts w bs
unfolding records_fit
body_parts w bs h =
    let (d, h₁) = and_split (each_fits definition_fits definition_size (definition_count bs) (drop header_size bs)) _ h in
    let (a, r) = and_split (each_fits (attribute_fits w (definition_count bs)) (attribute_size w) (attribute_count bs) (drop (at_attributes bs) bs)) _ h₁ in
    record { definitions = d; attributes = a; rows = r }

module _ (w : ℕ) (bs : Bytes) where
  abbrev from_particles : Bytes
  from_particles = drop (definition_size * definition_count bs) (drop header_size bs)

  abbrev from_attributes : Bytes
  from_attributes = drop (particle_size * particle_count bs) from_particles

  abbrev from_rows : Bytes
  from_rows = drop (attribute_size w * attribute_count bs) from_attributes

  from_particles_lem : from_particles ≡ drop (at_particles bs) bs
  from_particles_lem = drop-drop (definition_size * definition_count bs) header_size bs

  from_attributes_lem : from_attributes ≡ drop (at_attributes bs) bs
  from_attributes_lem = ap (λ (ys : Bytes). drop (particle_size * particle_count bs) ys) from_particles_lem ∙ drop-drop (particle_size * particle_count bs) (at_particles bs) bs

  from_rows_lem : from_rows ≡ drop (at_rows w bs) bs
  from_rows_lem = ap (λ (ys : Bytes). drop (attribute_size w * attribute_count bs) ys) from_attributes_lem ∙ drop-drop (attribute_size w * attribute_count bs) (at_attributes bs) bs

  module _ (small : Small bs) (header : FittingHeader w bs) (parts : BodyParts w bs) where
    small_bodies : Small (drop header_size bs)
    small_bodies = small_drop header_size small

    small_particles : Small from_particles
    small_particles = small_drop (definition_size * definition_count bs) small_bodies

    small_attributes : Small from_attributes
    small_attributes = small_drop (particle_size * particle_count bs) small_particles

    small_rows : Small from_rows
    small_rows = small_drop (attribute_size w * attribute_count bs) small_attributes

    fit_attributes : each_fits (attribute_fits w (definition_count bs)) (attribute_size w) (attribute_count bs) from_attributes ≡ true
    fit_attributes = ap (each_fits (attribute_fits w (definition_count bs)) (attribute_size w) (attribute_count bs)) from_attributes_lem ∙ parts.attributes

    fit_rows : each_fits (row_fits w) (row_size w) (row_count bs) from_rows ≡ true
    fit_rows = ap (each_fits (row_fits w) (row_size w) (row_count bs)) from_rows_lem ∙ parts.rows

    length_rows : length from_rows ≡ row_size w * row_count bs
    length_rows = omega (arith, ap length from_rows_lem, length-drop (at_rows w bs) bs)

    length_attributes : attribute_size w * attribute_count bs ≤ length from_attributes
    length_attributes = omega (arith, ap length from_attributes_lem, length-drop (at_attributes bs) bs)

    length_particles : particle_size * particle_count bs ≤ length from_particles
    length_particles = omega (arith, ap length from_particles_lem, length-drop (at_particles bs) bs)

    length_bodies : definition_size * definition_count bs ≤ length (drop header_size bs)
    length_bodies = omega (arith, length-drop header_size bs)

    bodies_canonical : each definition_bytes (read_flat w bs).definitions
        ++ (each particle_bytes (read_flat w bs).particles ++ (each (attribute_bytes w) (read_flat w bs).attributes ++ each (row_bytes w) (read_flat w bs).rows))
        ≡ drop header_size bs
    bodies_canonical =
        ap (λ (ys : Bytes). each definition_bytes (read_flat w bs).definitions ++ ys)
        (ap (λ (ys : Bytes). each particle_bytes (read_flat w bs).particles ++ ys)
        (ap (λ (ys : Bytes). each (attribute_bytes w) (read_flat w bs).attributes ++ ys)
        (body_canonical read_row (row_bytes w) (row_fits w) (row_size w) (row_canonical w) (row_count bs) from_rows small_rows length_rows fit_rows)
        ∙ body_then read_attribute (attribute_bytes w) (attribute_fits w (definition_count bs)) (attribute_size w)
        (λ x a. attribute_canonical w (definition_count bs) x) (attribute_count bs) from_attributes small_attributes length_attributes fit_attributes)
        ∙ body_then read_particle particle_bytes (λ x. true) particle_size (λ x a l h. particle_canonical x l) (particle_count bs) from_particles small_particles
        length_particles (any_particle (particle_count bs) from_particles))
        ∙ body_then read_definition definition_bytes definition_fits definition_size definition_canonical (definition_count bs) (drop header_size bs) small_bodies length_bodies parts.definitions

    counted : flat_bytes w (read_flat w bs) ≡ written w (number_at version_at 4 bs) (number_at next_at 4 bs) (definition_count bs) (particle_count bs) (attribute_count bs) (row_count bs) (drop header_size bs)
    counted = λ i.
        written w (number_at version_at 4 bs) (number_at next_at 4 bs) (length_many read_definition definition_size (definition_count bs) (drop header_size bs) i)
        (length_many read_particle particle_size (particle_count bs) from_particles i)
        (length_many read_attribute (attribute_size w) (attribute_count bs) from_attributes i) (length_many read_row (row_size w) (row_count bs) from_rows i) (bodies_canonical i)

    all_canonical : flat_bytes w (read_flat w bs) ≡ bs
    all_canonical =
        counted
        ∙ number_then bs version_at 4 (number_at version_at 4 bs) small refl (omega arith)
        (number_then bs next_at 4 (number_at next_at 4 bs) small refl (omega arith)
        (number_then bs definition_entry_at 4 header_size small (sym header.definitions_at) (omega arith)
        (number_then bs definition_count_at 4 (definition_count bs) small refl (omega arith)
        (number_then bs particle_entry_at 4 (at_particles bs) small (sym header.particles_at) (omega arith)
        (number_then bs particle_count_at 4 (particle_count bs) small refl (omega arith)
        (number_then bs attribute_entry_at 4 (at_attributes bs) small (sym header.attributes_at) (omega arith)
        (number_then bs attribute_count_at 4 (attribute_count bs) small refl (omega arith)
        (number_then bs row_entry_at 4 (at_rows w bs) small (sym header.rows_at) (omega arith)
        (number_then bs row_count_at 4 (row_count bs) small refl (omega arith) refl)))))))))

pub string_canonical : (w : ℕ) (bs : Bytes) → Small bs → header_fits w bs ≡ true → records_fit w bs ≡ true → flat_bytes w (read_flat w bs) ≡ bs
string_canonical w bs a h b = all_canonical w bs a (header_fields w bs h) (body_parts w bs b)

-- ---- what a string that fits holds
pub record FittingFlat (w : ℕ) (f : FlatStore) : Type 0 where
  pub version : known_version f.version ≡ true
  pub least : 1 ≤ f.next
  pub most : f.next < 4294967296
  pub few_definitions : length f.definitions ≤ 64
  pub few_particles : length f.particles ≤ 256
  pub few_attributes : length f.attributes ≤ 64
  pub few_rows : length f.rows ≤ 4096
  pub definitions : Every FittingDefinition f.definitions
  pub attributes : Every (FittingAttribute w (length f.definitions)) f.attributes
  pub rows : Every (FittingRow w) f.rows

all_fields : (w : ℕ) (bs : Bytes) → Small bs → FittingHeader w bs → BodyParts w bs → FittingFlat w (read_flat w bs)
all_fields w bs a x p =
    record {
      version = x.version;
      least = x.next;
      most = number_bound 4 bs next_at a (omega arith);
      few_definitions = omega (arith, definitions_read);
      few_particles = omega (arith, length_many read_particle particle_size (particle_count bs) (from_particles w bs));
      few_attributes = omega (arith, length_many read_attribute (attribute_size w) (attribute_count bs) (from_attributes w bs));
      few_rows = omega (arith, length_many read_row (row_size w) (row_count bs) (from_rows w bs));
      definitions = body_fields read_definition definition_bytes definition_fits definition_size FittingDefinition definition_fields (definition_count bs)
          (drop header_size bs) (small_bodies w bs a x p) (length_bodies w bs a x p) p.definitions;
      attributes = subst (λ (n : ℕ). Every (FittingAttribute w n) (read_flat w bs).attributes) (sym definitions_read)
          (body_fields read_attribute (attribute_bytes w) (attribute_fits w (definition_count bs)) (attribute_size w) (FittingAttribute w (definition_count bs))
          (λ y s l. attribute_fields w (definition_count bs) y) (attribute_count bs) (from_attributes w bs)
          (small_attributes w bs a x p) (length_attributes w bs a x p) (fit_attributes w bs a x p));
      rows = body_fields read_row (row_bytes w) (row_fits w) (row_size w) (FittingRow w) (row_fields w) (row_count bs) (from_rows w bs) (small_rows w bs a x p)
          (omega (arith, length_rows w bs a x p)) (fit_rows w bs a x p);
    }
  where
    definitions_read : length (read_flat w bs).definitions ≡ definition_count bs
    definitions_read = length_many read_definition definition_size (definition_count bs) (drop header_size bs)

pub string_fields : (w : ℕ) (bs : Bytes) → Small bs → header_fits w bs ≡ true → records_fit w bs ≡ true → FittingFlat w (read_flat w bs)
string_fields w bs a h b = all_fields w bs a (header_fields w bs h) (body_parts w bs b)

-- ---- what is written of such a store fits
pub fitting_good : (w : ℕ) (f : FlatStore) → FittingFlat w f → GoodFlat w f
fitting_good w f x =
    record {
      version = version_bound f.version x.version;
      next = x.most;
      definition_count = omega arith;
      particle_count = omega arith;
      attribute_count = omega arith;
      row_count = omega arith;
      definitions = every_map FittingDefinition GoodFlatDefinition f.definitions (λ d y. record { name = name_width_lem d.name y.name; particles = y.particles }) x.definitions;
      attributes = every_map (FittingAttribute w (length f.definitions)) (GoodFlatAttribute w) f.attributes
          (λ a y. record { name = name_width_lem a.name y.name; value = value_width_lem w a.value y.value }) x.attributes;
      rows = every_map (FittingRow w) (GoodFlatRow w) f.rows (λ r y. record { index = y.index; serial = y.serial; value = value_width_lem w r.row.value y.value }) x.rows;
    }

module _ (w : ℕ) (f : FlatStore) (x : FittingFlat w f) where
  abbrev d : ℕ
  d = length f.definitions

  abbrev p : ℕ
  p = length f.particles

  abbrev a : ℕ
  a = length f.attributes

  definitions_counted : definition_count (flat_bytes w f) ≡ d
  definitions_counted = unle_le 4 d (omega arith)

  particles_counted : particle_count (flat_bytes w f) ≡ p
  particles_counted = unle_le 4 p (omega arith)

  attributes_counted : attribute_count (flat_bytes w f) ≡ a
  attributes_counted = unle_le 4 a (omega arith)

  rows_counted : row_count (flat_bytes w f) ≡ length f.rows
  rows_counted = unle_le 4 (length f.rows) (omega arith)

  counts_fit_lem : counts_fit (flat_bytes w f) ≡ true
  unfolding counts_fit
  counts_fit_lem =
      and_both (within definitions_counted x.few_definitions)
      (and_both (within particles_counted x.few_particles) (and_both (within attributes_counted x.few_attributes) (within rows_counted x.few_rows)))
    where
      within : {m n k : ℕ} → m ≡ n → n ≤ k → leb m k ≡ true
      within {m} {n} {k} e h = le-leb m k (omega arith)

  offsets_fit_lem : w < 256 → offsets_fit w (flat_bytes w f) ≡ true
  unfolding offsets_fit
  offsets_fit_lem narrow =
      let k : attribute_size w * a ≤ attribute_size 256 * 64 = mul-le-mul {n₁ = attribute_size w} {m₁ = a} {n₂ = attribute_size 256} {m₂ = 64} (omega arith) (omega arith) in
      and_both (eq-eqb _ _ (unle_le 4 header_size (lit< tt)))
      (and_both (eq-eqb _ _ (unle_le 4 (header_size + definition_size * d) (omega arith) ∙ sym (ap (λ (m : ℕ). header_size + definition_size * m) definitions_counted)))
      (and_both
      (eq-eqb _ _
      (unle_le 4 (header_size + definition_size * d + particle_size * p) (omega arith)
      ∙ sym (ap₂ (λ (m n : ℕ). header_size + definition_size * m + particle_size * n) definitions_counted particles_counted)))
      (eq-eqb _ _
      (unle_le 4 (header_size + definition_size * d + particle_size * p + attribute_size w * a) (omega arith)
      ∙ sym (λ i. header_size + definition_size * definitions_counted i + particle_size * particles_counted i + attribute_size w * attributes_counted i)))))

  pub header_fits_lem : w < 256 → header_fits w (flat_bytes w f) ≡ true
  unfolding header_fits
  header_fits_lem narrow =
      and_both (le-leb header_size (length (flat_bytes w f)) (omega (arith, length_flat_bytes w f)))
      (and_both (ap known_version (unle_le 4 f.version (fitting_good w f x).version) ∙ x.version)
      (and_both counts_fit_lem (and_both (offsets_fit_lem narrow)
      (and_both (sized_bytes w f (fitting_good w f x)) (le-leb 1 (number_at next_at 4 (flat_bytes w f)) (omega (arith, unle_le 4 f.next x.most)))))))

  -- the string, and its bodies one after another
  abbrev string : Bytes
  string = flat_bytes w f

  abbrev attribute_body : Bytes
  attribute_body = each (attribute_bytes w) f.attributes

  abbrev row_body : Bytes
  row_body = each (row_bytes w) f.rows

  abbrev particle_body : Bytes
  particle_body = each particle_bytes f.particles

  attributes_from_lem : drop (at_attributes string) string ≡ attribute_body ++ row_body
  attributes_from_lem =
      sym (from_attributes_lem w string)
      ∙ ap₂ (λ (m n : ℕ). drop (particle_size * n) (drop (definition_size * m) (drop header_size string))) definitions_counted particles_counted
      ∙ ap (λ (ys : Bytes). drop (particle_size * p) ys)
      (drop_at (each definition_bytes f.definitions) (particle_body ++ (attribute_body ++ row_body)) (definition_size * d)
      (length_each definition_bytes definition_size length_definition f.definitions))
      ∙ drop_at particle_body (attribute_body ++ row_body) (particle_size * p) (length_each particle_bytes particle_size length_particle f.particles)

  rows_from_lem : drop (at_rows w string) string ≡ row_body
  rows_from_lem =
      sym (from_rows_lem w string)
      ∙ ap₂ (λ (m : ℕ) (ys : Bytes). drop (attribute_size w * m) ys) attributes_counted (from_attributes_lem w string ∙ attributes_from_lem)
      ∙ drop_at attribute_body row_body (attribute_size w * a) (length_each (attribute_bytes w) (attribute_size w) (length_attribute w) f.attributes)

  pub bodies_fit_lem : records_fit w (flat_bytes w f) ≡ true
  unfolding records_fit
  bodies_fit_lem =
      and_both
      (ap (λ (n : ℕ). each_fits definition_fits definition_size n (drop header_size string)) definitions_counted
      ∙ body_fits read_definition definition_bytes definition_fits definition_size length_definition f.definitions (particle_body ++ (attribute_body ++ row_body))
      (every_map FittingDefinition (λ y. definition_fits (definition_bytes y) ≡ true) f.definitions definition_fits_lem x.definitions))
      (and_both
      ((λ i. each_fits (attribute_fits w (definitions_counted i)) (attribute_size w) (attributes_counted i) (attributes_from_lem i))
      ∙ body_fits read_attribute (attribute_bytes w) (attribute_fits w d) (attribute_size w) (length_attribute w) f.attributes row_body
      (every_map (FittingAttribute w d) (λ y. attribute_fits w d (attribute_bytes w y) ≡ true) f.attributes (attribute_fits_lem w d) x.attributes))
      (ap₂ (λ (n : ℕ) (ys : Bytes). each_fits (row_fits w) (row_size w) n ys) rows_counted rows_from_lem
      ∙ body_fits_whole read_row (row_bytes w) (row_fits w) (row_size w) (length_row w) f.rows
      (every_map (FittingRow w) (λ y. row_fits w (row_bytes w y) ≡ true) f.rows (row_fits_lem w) x.rows)))

-- header and bodies fit if and only if what is read is good and the string is what it is written as
pub string_test : (w : ℕ) (bs : Bytes) → w < 256 → Small bs → ((header_fits w bs && records_fit w bs) ≡ true) ↔ (FittingFlat w (read_flat w bs) × (flat_bytes w (read_flat w bs) ≡ bs))
string_test w bs narrow small = (
  λ t. let (h, b) = and_split (header_fits w bs) (records_fit w bs) t in (string_fields w bs small h b, string_canonical w bs small h b),
  λ (x, e). ap (λ (ys : Bytes). header_fits w ys && records_fit w ys) (sym e) ∙ and_both (header_fits_lem w (read_flat w bs) x narrow) (bodies_fit_lem w (read_flat w bs) x),
)

-- ---- a store that passes
kind_few : (c : Content) → kind_code c ≤ 2
kind_few empty = omega arith
kind_few pcdata = omega arith
kind_few (complex ms) = omega arith

kind_none : (form : Form) (c : Content) → (eqb (kind_code c) 2 || eqb (length (content_particles form c)) 0) ≡ true
kind_none form empty = refl
kind_none form pcdata = refl
kind_none form (complex ms) = refl

store_definitions : (w : ℕ) (form fs : Form) → Every (DefinitionParts w form) fs → Every GoodFlatDefinition (map (flat_definition form) fs) → Every FittingDefinition (map (flat_definition form) fs)
store_definitions w form [] a g = tt
store_definitions w form (d ∷ fs) a g =
    (record { name = a.0.name; kind = kind_few d.content; none = kind_none form d.content; particles = g.0.particles }, store_definitions w form fs a.1 g.1)

pub sort_few : (s : AttributeSort) → sort_code s ≤ 2
sort_few Implied = omega arith
sort_few Required = omega arith
sort_few Fixed = omega arith

fill_code : (s : AttributeSort) (v : Bytes) → is_fill s v ≡ true → is_fill (sort_of (sort_code s)) v ≡ true
fill_code Implied v h = h
fill_code Required v h = h
fill_code Fixed v h = h

own_attributes_lem : (w n o : ℕ) (cs : List Attribute) → o < n → Every (λ a. is_attribute_of w a ≡ true) cs → Every (FittingAttribute w n) (own_attributes o cs)
own_attributes_lem w n o [] l a = tt
own_attributes_lem w n o (c ∷ cs) l a =
    let (m, h) = and_split (stored_name c.name) _ a.0 in
    let (v, k) = and_split (is_value w c.value) (is_fill c.sort c.value) h in
    (record { owner = l; name = m; sort = sort_few c.sort; value = v; fill = fill_code c.sort c.value k }, own_attributes_lem w n o cs l a.1)

store_attributes : (w : ℕ) (form : Form) (n o : ℕ) (fs : Form) → o + length fs ≤ n → Every (DefinitionParts w form) fs → Every (FittingAttribute w n) (all_attributes o fs)
store_attributes w form n o [] l a = tt
store_attributes w form n o (d ∷ fs) l a =
    every_append (FittingAttribute w n) (own_attributes o d.attributes) (all_attributes (suc o) fs)
    (own_attributes_lem w n o d.attributes (omega arith) a.0.attributes) (store_attributes w form n (suc o) fs (omega arith) a.1)

-- what the value and the sort of a row say
record LaidRow (w : ℕ) (r : Deep FlatRow) : Type 0 where
  least : 1 ≤ r.row.sort
  most : r.row.sort ≤ 3
  value : is_value w r.row.value ≡ true
  element : r.row.sort ≡ 1 → r.row.value ≡ []
  text : r.row.sort ≡ 3 → r.row.index ≡ 0

row_laid : (w : ℕ) (form : Form) (owner : Bytes) (depth : ℕ) (r : Row) → laid_row w r ≡ true
    → LaidRow w (record { depth = depth; row = record { sort = row_code r.sort; index = row_index form owner r; serial = r.serial; value = r.value } })
row_laid w form owner depth r h = by r.sort refl
  where
    Goal : Type 0
    Goal = LaidRow w (record { depth = depth; row = record { sort = row_code r.sort; index = row_index form owner r; serial = r.serial; value = r.value } })

    by : (s : RowSort) → r.sort ≡ s → Goal
    by element q =
        let v : r.value ≡ [] = none_nil r.value (rw (q, laid_row) at h) in
        let c : row_code r.sort ≡ 1 = ap row_code q in
        record { least = omega arith; most = omega arith; value = ap (is_value w) v ∙ and_both (le-leb 0 w (omega arith)) refl; element = λ e. v; text = λ e. absurd (omega arith) }
    by attribute q =
        let c : row_code r.sort ≡ 2 = ap row_code q in
        record { least = omega arith; most = omega arith; value = rw (q, laid_row) at h; element = λ e. absurd (omega arith); text = λ e. absurd (omega arith) }
    by text q =
        let c : row_code r.sort ≡ 3 = ap row_code q in
        record {
          least = omega arith;
          most = omega arith;
          value = (and_split (is_value w r.value) (is_none r.name) (rw (q, laid_row) at h)).0;
          element = λ e. absurd (omega arith);
          text = λ e. rw q refl;
        }

store_rows : (w : ℕ) (form : Form) (owner : Bytes) (depth : ℕ) (f : Forest Row) → EveryRow (λ r below. laid_row w r ≡ true) f → Every (LaidRow w) (preorder depth (indexed form owner f))
store_rows w form owner depth bare h = tt
store_rows w form owner depth (tree r b t) h = (
  row_laid w form owner depth r h.0,
  every_append (LaidRow w) (preorder (suc depth) (indexed form r.name b)) (preorder depth (indexed form owner t))
      (store_rows w form r.name (suc depth) b h.1) (store_rows w form owner depth t h.2),
)

pub store_fields : (s : Store) → good s ≡ true → FittingFlat (value_width s.version) (flat s)
store_fields s g = of (good_parts s g) (good_flat s g)
  where
    of : GoodParts s → GoodFlat (value_width s.version) (flat s) → FittingFlat (value_width s.version) (flat s)
    of p f =
        record {
          version = p.version;
          least = p.least;
          most = omega (arith, p.next);
          few_definitions = p.definition_count;
          few_particles = p.particle_count;
          few_attributes = p.attribute_count;
          few_rows = p.row_count;
          definitions = store_definitions (value_width s.version) s.form s.form (every_definition s g) f.definitions;
          attributes = store_attributes (value_width s.version) s.form (length (flat s).definitions) 0 s.form
              (omega (arith, length-map s.form (flat_definition s.form))) (every_definition s g);
          rows = every_zip (LaidRow (value_width s.version)) (GoodFlatRow (value_width s.version)) (FittingRow (value_width s.version)) (flat s).rows
              (λ r a b. record {
                least = a.least;
                most = a.most;
                value = a.value;
                element = a.element;
                text = a.text;
                index = b.index;
                serial = b.serial;
              })
              (store_rows (value_width s.version) s.form [] 0 s.docs p.values) f.rows;
        }

-- all that the laws use of the width of a value
pub store_header_fits : (s : Store) → good s ≡ true → header_fits (value_width s.version) (encode s) ≡ true
store_header_fits s g = header_fits_lem (value_width s.version) (flat s) (store_fields s g) (width_bound s.version)

pub store_bodies_fit : (s : Store) → good s ≡ true → records_fit (value_width s.version) (encode s) ≡ true
store_bodies_fit s g = bodies_fit_lem (value_width s.version) (flat s) (store_fields s g)
