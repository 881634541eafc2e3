-- A byte string whose header fits passes just where its form, its rows and its serials do.
use Prim.Native.Nat.{ℕ, ◌+◌, ◌*◌, ◌≤◌}
use native.Mathlib.Omega.{arith}
use mathlib.Core.Path.{◌≡◌, refl, ap, ◌∙◌, sym, subst}
use mathlib.Core.Logic.{◌↔◌}
use mathlib.Core.Bool.{true, ◌&&◌}
use mathlib.Core.List.{List, map}
use lib.Dec.{leb, ltb}
use lib.ListN.{length, take, drop, length-take, length-drop}
use lib.Seq.{drop-drop}
use borrow.Author.Tests.{le-leb}
use Rattle.rules.specs.Bytes.{Bytes, numbers, all}
use Rattle.rules.specs.Model.{distinct}
use Rattle.rules.specs.Store.{Form}
use Rattle.rules.specs.Preorder.{Deep}
use Rattle.rules.specs.Layout.{header_size, definition_size, particle_size, attribute_size, row_size, FlatRow, FlatStore, encode}
use Rattle.rules.specs.Decode.{number_at, read_definition, read_particle, read_attribute, read_row, read_many, definition_count, particle_count, attribute_count, row_count, read_form, flat_name, unflat}
use Rattle.rules.specs.WellFormed.{highest_number, Reaches}
use Rattle.rules.specs.Passing.{passes}
use Rattle.rules.proofs.Words.{and_both, and_split}
use Rattle.rules.proofs.BooleanLaws.{every_map}
use Rattle.rules.proofs.LayoutLaws.{Small}
use Rattle.rules.proofs.DecodeLaws.{passes_tests}
use Rattle.codec.proofs.Records.{many_within}
use Rattle.layout.proofs.LayoutLaws.{version_read}
use Rattle.records.specs.Records.{definition_fits, attribute_fits, row_fits, each_fits, at_particles, at_attributes, at_rows, header_fits}
use Rattle.records.specs.Records as records
use Rattle.records.proofs.RecordLaws.{small_take, small_drop, FittingDefinition, FittingAttribute, FittingRow, each_fits_cut}
use Rattle.records.proofs.StringLaws.{FittingHeader, header_fields, string_canonical, FittingFlat, string_fields, store_header_fits, store_bodies_fit}
use Rattle.form_check.specs.FormTests.{bodies_fit}
use Rattle.form_check.specs.Bodies.{definitions, attributes, form_of_bodies}
use Rattle.model_check.specs.Particles.{particles_read}
use Rattle.form_check.proofs.Laws.{bodies_only}
use Rattle.serial_check.specs.Serials.{serial_of_deep, serials_of}
use Rattle.form_index.specs.Indices.{IndexForm, Documents}
use Rattle.store_check.specs.Reading.{DefinitionFits, AttributeFits, FieldsFit, flat_index_form, Agrees, RowFits, serials_of_rows, serials_fit, Checks, FlatPasses}
use Rattle.layout.specs.Bodies.{width_of, shape_of, attributes_start, rows_start, definition_body, particle_body, attribute_body, row_body, definitions_in, particles_in, attributes_in, tree_rows_in}
use Rattle.store_check.specs.Check.{FormIn, RowsPass, fitting, SerialsIn}
use Rattle.store_check.proofs.FormGood.{form_agrees, ceilings_counted}
use Rattle.store_check.proofs.StoreReads.{checks_read, flat_of, passes_read}
use Rattle.store_check.proofs.FormLaws.{definition_told, attribute_told, Laid}
use Rattle.store_check.proofs.RecordsTold.{EachFits, each_fits_lem}
use Rattle.layout.specs.Fields.{next_at, version_at}

row_told : (w : ℕ) (x : Deep FlatRow) → FittingRow w x → RowFits w x.row
row_told w x r = record { plain = record { low = r.least; high = r.most; text = r.text }; value = r.value; element = r.element }

serials_told : (next : ℕ) (ks : List ℕ) → 1 ≤ next → next ≤ highest_number → (serials_fit next ks ≡ true) ↔ (fitting next ks ≡ true)
unfolding serials_fit fitting
serials_told next ks l m = (
  λ h.
      let (once, h₁) = and_split (distinct numbers ks) _ h in
      and_both once (and_split (all (λ k. leb 1 k && ltb k next) ks) _ h₁).0,
  λ h.
      let (once, below) = and_split (distinct numbers ks) _ h in
      and_both once (and_both below (and_both (le-leb 1 next l) (le-leb next highest_number m))),
)

-- a string that passes has a header that fits
pub passes_header : (bs : Bytes) → passes bs ≡ true → header_fits (width_of bs) bs ≡ true
passes_header bs q =
    let (s, e, g) = (passes_tests bs).0 q in
    subst (λ (ys : Bytes). header_fits (width_of ys) ys ≡ true) e (subst (λ (w : ℕ). header_fits w (encode s) ≡ true) (sym (version_read s g)) (store_header_fits s g))

-- .. and bodies that fit
passes_bodies : (bs : Bytes) → passes bs ≡ true → records.records_fit (width_of bs) bs ≡ true
passes_bodies bs q =
    let (s, e, g) = (passes_tests bs).0 q in
    subst (λ (ys : Bytes). records.records_fit (width_of ys) ys ≡ true) e (subst (λ (w : ℕ). records.records_fit w (encode s) ≡ true) (sym (version_read s g)) (store_bodies_fit s g))

-- bytes whose header fits
pub record Headed (bs : Bytes) : Type 0 where
  pub small : Small bs
  pub header : header_fits (width_of bs) bs ≡ true

module _ {bs : Bytes} (h : Headed bs) where
  pub header : FittingHeader (width_of bs) bs
  header = header_fields (width_of bs) bs h.header

  -- ---- the bodies
  definitions_cut : definitions_in bs ≡ take (definition_size * definition_count bs) (drop header_size bs)
  unfolding definition_body shape_of
  definitions_cut = refl

  particles_cut : particles_in bs ≡ take (particle_size * particle_count bs) (drop (at_particles bs) bs)
  unfolding particle_body shape_of
  particles_cut = refl

  attributes_cut : attributes_in bs ≡ take (attribute_size (width_of bs) * attribute_count bs) (drop (at_attributes bs) bs)
  unfolding attribute_body attributes_start shape_of
  attributes_cut = refl

  rows_cut : tree_rows_in bs ≡ take (row_size (width_of bs) * row_count bs) (drop (at_rows (width_of bs) bs) bs)
  unfolding row_body rows_start attributes_start shape_of
  rows_cut = refl

  cut_length : (at n : ℕ) {ys : Bytes} → ys ≡ take n (drop at bs) → at + n ≤ length bs → n ≡ length ys
  cut_length at n e l = omega (arith, ap (λ (zs : Bytes). length zs) e, length-take n (drop at bs), length-drop at bs)

  cut_small : (at n : ℕ) {ys : Bytes} → ys ≡ take n (drop at bs) → Small ys
  cut_small at n e = subst Small (sym e) (small_take n (small_drop at h.small))

  pub laid_in : Laid (width_of bs) (definition_count bs) (definitions_in bs) (particle_count bs) (particles_in bs) (attribute_count bs) (attributes_in bs)
  laid_in =
      record {
        bodies = record {
          definition_body = record { few = header.few_definitions; whole = cut_length header_size (definition_size * definition_count bs) definitions_cut (omega (arith, header.size)) };
          particle_body = record { few = header.few_particles; whole = cut_length (at_particles bs) (particle_size * particle_count bs) particles_cut (omega (arith, header.size)) };
          attribute_body = record { few = header.few_attributes; whole = cut_length (at_attributes bs) (attribute_size (width_of bs) * attribute_count bs) attributes_cut (omega (arith, header.size)) };
        };
        definitions = cut_small header_size (definition_size * definition_count bs) definitions_cut;
        attributes = cut_small (at_attributes bs) (attribute_size (width_of bs) * attribute_count bs) attributes_cut;
      }

  pub rows_whole : row_size (width_of bs) * row_count bs ≡ length (tree_rows_in bs)
  rows_whole = cut_length (at_rows (width_of bs) bs) (row_size (width_of bs) * row_count bs) rows_cut (omega (arith, header.size))

  pub rows_small : Small (tree_rows_in bs)
  rows_small = cut_small (at_rows (width_of bs) bs) (row_size (width_of bs) * row_count bs) rows_cut

  -- ---- what is read of them
  pub same_definitions : (flat_of bs).definitions ≡ definitions (definition_count bs) (definitions_in bs)
  unfolding definitions
  same_definitions =
      sym (ap (read_many read_definition definition_size (definition_count bs)) definitions_cut ∙ many_within read_definition definition_size (definition_count bs) (drop header_size bs))

  pub same_particles : (flat_of bs).particles ≡ particles_read (particle_count bs) (particles_in bs)
  unfolding particles_read
  same_particles =
      ap (read_many read_particle particle_size (particle_count bs)) (drop-drop (definition_size * definition_count bs) header_size bs)
      ∙ sym (ap (read_many read_particle particle_size (particle_count bs)) particles_cut ∙ many_within read_particle particle_size (particle_count bs) (drop (at_particles bs) bs))

  from_attributes_lem : drop (particle_size * particle_count bs) (drop (definition_size * definition_count bs) (drop header_size bs)) ≡ drop (at_attributes bs) bs
  from_attributes_lem =
      ap (λ (ys : Bytes). drop (particle_size * particle_count bs) ys) (drop-drop (definition_size * definition_count bs) header_size bs)
      ∙ drop-drop (particle_size * particle_count bs) (at_particles bs) bs

  pub same_attributes : (flat_of bs).attributes ≡ attributes (width_of bs) (attribute_count bs) (attributes_in bs)
  unfolding attributes width_of
  same_attributes =
      ap (read_many read_attribute (attribute_size (width_of bs)) (attribute_count bs)) from_attributes_lem
      ∙ sym
      (ap (read_many read_attribute (attribute_size (width_of bs)) (attribute_count bs)) attributes_cut
      ∙ many_within read_attribute (attribute_size (width_of bs)) (attribute_count bs) (drop (at_attributes bs) bs))

  pub same_rows : (flat_of bs).rows ≡ read_many read_row (row_size (width_of bs)) (row_count bs) (tree_rows_in bs)
  unfolding width_of
  same_rows =
      ap (read_many read_row (row_size (width_of bs)) (row_count bs))
      (ap (λ (ys : Bytes). drop (attribute_size (width_of bs) * attribute_count bs) ys) from_attributes_lem ∙ drop-drop (attribute_size (width_of bs) * attribute_count bs) (at_attributes bs) bs)
      ∙ sym (ap (read_many read_row (row_size (width_of bs)) (row_count bs)) rows_cut ∙ many_within read_row (row_size (width_of bs)) (row_count bs) (drop (at_rows (width_of bs) bs) bs))

  -- the form alone
  abbrev pub form_in : FlatStore
  form_in = form_of_bodies (width_of bs) (definition_count bs) (definitions_in bs) (particle_count bs) (particles_in bs) (attribute_count bs) (attributes_in bs)

  pub same_form : (unflat (flat_of bs)).form ≡ (unflat form_in).form
  same_form = λ i. read_form (map flat_name (same_definitions i)) 0 (same_definitions i) (same_particles i) (same_attributes i)

  same_bodies : bodies_fit (flat_of bs) ≡ bodies_fit form_in
  same_bodies = bodies_only (flat_of bs) form_in same_definitions same_particles same_attributes

  same_serials : serials_of_rows (flat_of bs).rows ≡ serials_of (width_of bs) (row_count bs) (tree_rows_in bs)
  unfolding serials_of
  same_serials = ap (λ (xs : List (Deep FlatRow)). map serial_of_deep xs) same_rows

  -- ---- record by record
  definitions_each : each_fits definition_fits definition_size (definition_count bs) (definitions_in bs) ≡ each_fits definition_fits definition_size (definition_count bs) (drop header_size bs)
  definitions_each =
      ap (each_fits definition_fits definition_size (definition_count bs)) definitions_cut
      ∙ each_fits_cut definition_fits definition_size (definition_count bs) (definition_size * definition_count bs) (drop header_size bs) (omega arith)

  attributes_each : each_fits (attribute_fits (width_of bs) (definition_count bs)) (attribute_size (width_of bs)) (attribute_count bs) (attributes_in bs)
      ≡ each_fits (attribute_fits (width_of bs) (definition_count bs)) (attribute_size (width_of bs)) (attribute_count bs) (drop (at_attributes bs) bs)
  attributes_each =
      ap (each_fits (attribute_fits (width_of bs) (definition_count bs)) (attribute_size (width_of bs)) (attribute_count bs)) attributes_cut
      ∙ each_fits_cut (attribute_fits (width_of bs) (definition_count bs)) (attribute_size (width_of bs)) (attribute_count bs)
      (attribute_size (width_of bs) * attribute_count bs) (drop (at_attributes bs) bs) (omega arith)

  rows_each : each_fits (row_fits (width_of bs)) (row_size (width_of bs)) (row_count bs) (tree_rows_in bs)
      ≡ each_fits (row_fits (width_of bs)) (row_size (width_of bs)) (row_count bs) (drop (at_rows (width_of bs) bs) bs)
  rows_each =
      ap (each_fits (row_fits (width_of bs)) (row_size (width_of bs)) (row_count bs)) rows_cut
      ∙ each_fits_cut (row_fits (width_of bs)) (row_size (width_of bs)) (row_count bs) (row_size (width_of bs) * row_count bs) (drop (at_rows (width_of bs) bs) bs) (omega arith)

  -- ---- the tests; F: the form by index
  module _ (F : IndexForm) (agrees : FormIn bs → Agrees (number_at version_at 4 bs) F (unflat form_in).form) where
    abbrev Tests : Type 0
    Tests = FormIn bs × RowsPass (width_of bs) F (row_count bs) (tree_rows_in bs) × SerialsIn bs

    checks_as : (G H : IndexForm) → FieldsFit (width_of bs) (flat_of bs) → bodies_fit (flat_of bs) ≡ true → Agrees (number_at version_at 4 bs) G (unflat (flat_of bs)).form
        → Agrees (number_at version_at 4 bs) H (unflat (flat_of bs)).form → Checks G (flat_of bs) → Checks H (flat_of bs)
    unfolding width_of
    checks_as G H fields bodies x y c = (checks_read (flat_of bs) fields bodies H y).0 ((checks_read (flat_of bs) fields bodies G x).1 c)

    agrees_read : FormIn bs → Agrees (number_at version_at 4 bs) F (unflat (flat_of bs)).form
    agrees_read x = subst (λ (z : Form). Agrees (number_at version_at 4 bs) F z) (sym same_form) (agrees x)

    passes→ : passes bs ≡ true → Tests
    unfolding width_of
    passes→ q =
        let each : EachFits (width_of bs) bs = (each_fits_lem (width_of bs) bs).0 (passes_bodies bs q) in
        let p : FlatPasses (flat_of bs) = ((passes_read bs).0 q).1 in
        let form : FormIn bs =
        record {
          passes = record {
            definitions = definitions_each ∙ each.definitions;
            attributes = attributes_each ∙ each.attributes;
            bodies = sym same_bodies ∙ p.bodies;
            circle = subst (λ (z : Form). (x : Bytes) → Reaches z x x → ⊥) same_form p.checks.circle;
          };
        } in
        let c : Checks F (flat_of bs) =
        checks_as (flat_index_form (flat_of bs)) F p.fields p.bodies (form_agrees (width_of bs) (flat_of bs) p.fields p.bodies (number_at version_at 4 bs))
        (agrees_read form) p.checks in (
          form,
          record { fields = rows_each ∙ each.rows; documents = subst (λ (xs : List (Deep FlatRow)). Documents F xs) same_rows c.documents },
          record {
            fits = ap (fitting (number_at next_at 4 bs)) (sym same_serials)
                ∙ (serials_told (number_at next_at 4 bs) (serials_of_rows (flat_of bs).rows) header.next (next_most each)).0 c.serials;
          },
        )
      where
        next_most : EachFits (width_of bs) bs → number_at next_at 4 bs ≤ highest_number
        next_most each = omega (arith, (string_fields (width_of bs) bs h.small h.header ((each_fits_lem (width_of bs) bs).1 each)).most)

    passes← : Tests → passes bs ≡ true
    unfolding width_of
    passes← (form, rows, serials) =
        let each : records.records_fit (width_of bs) bs ≡ true =
        (each_fits_lem (width_of bs) bs).1
        (record {
          definitions = sym definitions_each ∙ form.passes.definitions;
          attributes = sym attributes_each ∙ form.passes.attributes;
          rows = sym rows_each ∙ rows.fields;
        }) in
        let f : FittingFlat (width_of bs) (flat_of bs) = string_fields (width_of bs) bs h.small h.header each in
        let fields : FieldsFit (width_of bs) (flat_of bs) =
        record {
          definitions = every_map FittingDefinition DefinitionFits (flat_of bs).definitions definition_told f.definitions;
          attributes = every_map (FittingAttribute (width_of bs) (length (flat_of bs).definitions))
              (AttributeFits (width_of bs) (length (flat_of bs).definitions)) (flat_of bs).attributes
              (attribute_told (width_of bs) (length (flat_of bs).definitions)) f.attributes;
        } in
        let bodies : bodies_fit (flat_of bs) ≡ true = same_bodies ∙ form.passes.bodies in
        let c : Checks F (flat_of bs) =
        record {
          version = f.version;
          ceilings = ceilings_counted (flat_of bs) bodies
              ∙ and_both (le-leb _ 64 f.few_definitions)
              (and_both (le-leb _ 256 f.few_particles) (and_both (le-leb _ 64 f.few_attributes) (le-leb _ 4096 f.few_rows)));
          circle = subst (λ (z : Form). (x : Bytes) → Reaches z x x → ⊥) (sym same_form) form.passes.circle;
          rows = every_map (FittingRow (width_of bs)) (λ x. RowFits (width_of bs) x.row) (flat_of bs).rows (row_told (width_of bs)) f.rows;
          documents = subst (λ (xs : List (Deep FlatRow)). Documents F xs) (sym same_rows) rows.documents;
          serials = (serials_told (number_at next_at 4 bs) (serials_of_rows (flat_of bs).rows) header.next (omega (arith, f.most))).1 (ap (fitting (number_at next_at 4 bs)) same_serials ∙ serials.fits);
        } in
        (passes_read bs).1 (
          string_canonical (width_of bs) bs h.small h.header each,
          record {
            fields = fields;
            bodies = bodies;
            checks = checks_as F (flat_index_form (flat_of bs)) fields bodies (agrees_read form)
                (form_agrees (width_of bs) (flat_of bs) fields bodies (number_at version_at 4 bs)) c;
          },
        )

    pub passes_in : (passes bs ≡ true) ↔ (FormIn bs × RowsPass (width_of bs) F (row_count bs) (tree_rows_in bs) × SerialsIn bs)
    passes_in = (passes→, passes←)
