-- The flat bodies of a store pass the tests just where what is read from them passes and is written as them; a byte
-- string passes just where it holds such bodies.
use Prim.Native.Nat.{ℕ, zero, suc, ◌≤◌}
use native.Mathlib.Omega.{arith}
use mathlib.Core.Path.{◌≡◌, refl, ap, ◌∙◌, sym, subst}
use mathlib.Core.Logic.{◌↔◌}
use mathlib.Core.Bool.{Bool, true, ◌&&◌}
use mathlib.Core.List.{List, [], ◌∷◌, ◌++◌, map, map-append}
use Rattle.rules.specs.Bytes.{Bytes, is_none}
use Rattle.rules.specs.Store.{Form, RowSort, element, attribute, text, Row, Forest, bare, tree, Store}
use Rattle.rules.specs.Preorder.{Deep, preorder, build}
use Rattle.rules.specs.Layout.{value_width, FlatRow, FlatStore, row_code, index_of, attribute_index, indexed, flat, flat_bytes, encode}
use Rattle.rules.specs.Decode.{number_at, read_flat, row_sort_of, row_name, read_rows, flat_attribute_name, unflat}
use Rattle.rules.specs.WellFormed.{is_value, within_ceilings, well_formed}
use Rattle.rules.specs.Conforming.{EveryRow}
use Rattle.rules.specs.Passing.{laid_row, serials, good_serials, good, Good, passes}
use Rattle.rules.proofs.Words.{and_both, and_split}
use Rattle.rules.proofs.BooleanLaws.{Every, every_append, every_map, none_nil, every_left, every_right}
use Rattle.rules.proofs.PreorderLaws.{build_preorder}
use Rattle.rules.proofs.LayoutLaws.{unle_le, read_bytes}
use Rattle.rules.proofs.SerialLaws.{good_serials_lem}
use Rattle.rules.proofs.WellFormedLaws.{well_formed_lem, no_circle, none_value}
use Rattle.rules.proofs.PassingLaws.{good_is}
use Rattle.rules.proofs.DecodeLaws.{attribute_names, unflat_flat, good_flat, good_known, good_found, passes_tests}
use Rattle.form_check.specs.FormTests.{bodies_fit}
use Rattle.form_index.specs.Indices.{IndexForm}
use Rattle.store_check.specs.Reading.{FieldsFit, flat_index_form, Agrees, PlainRow, RowFits, ReadsAs, serials_of_rows, serials_fit, Checks, FlatPasses}
use Rattle.store_check.proofs.IndexLaws.{names_of}
use Rattle.store_check.proofs.FormReads.{form_of, form_names, read_definitions, read_particles, read_attributes}
use Rattle.store_check.proofs.FormGood.{form_good, form_agrees, good_bodies, good_fields}
use Rattle.store_check.proofs.RowsRead.{docs_read, documents_read, documents_written}
use Rattle.layout.specs.Fields.{version_at}

-- ---- the documents of a flat store, as they are read
pub docs_read_lem : (w : ℕ) (f : FlatStore) → FieldsFit w f → bodies_fit f ≡ true → docs_read (form_of f) (build f.rows 0) ≡ (unflat f).docs
docs_read_lem w f fit bodies = λ i. read_rows (form_names f i) (map flat_attribute_name (read_attributes w f fit bodies i)) (build f.rows 0)

-- ---- values
fits_sort : (w : ℕ) (form : Form) (owner : Bytes) (r : Row) (s : RowSort)
    → elim s as (λ z. Bool) [ element ↦ is_none r.value | attribute ↦ is_value w r.value | text ↦ is_value w r.value && is_none r.name ] ≡ true
    → RowFits w (record {
      sort = row_code s;
      index = elim s as (λ z. ℕ) [ element ↦ index_of r.name form | attribute ↦ attribute_index owner r.name form | text ↦ 0 ];
      serial = r.serial;
      value = r.value;
    })
fits_sort w form owner r element h =
    record { plain = record { low = omega arith; high = omega arith; text = λ e. absurd (omega arith) }; value = rw (none_nil r.value h) (none_value w); element = λ e. none_nil r.value h }
fits_sort w form owner r attribute h = record { plain = record { low = omega arith; high = omega arith; text = λ e. absurd (omega arith) }; value = h; element = λ e. absurd (omega arith) }
fits_sort w form owner r text h =
    record { plain = record { low = omega arith; high = omega arith; text = λ e. refl }; value = (and_split (is_value w r.value) (is_none r.name) h).0; element = λ e. absurd (omega arith) }

rows_fit_lem : (w : ℕ) (form : Form) (d : ℕ) (owner : Bytes) (t : Forest Row) → EveryRow (λ r below. laid_row w r ≡ true) t → Every (λ x. RowFits w x.row) (preorder d (indexed form owner t))
rows_fit_lem w form d owner bare h = tt
rows_fit_lem w form d owner (tree r b t) h = (
  fits_sort w form owner r r.sort h.0,
  every_append (λ x. RowFits w x.row) (preorder (suc d) (indexed form r.name b)) (preorder d (indexed form owner t))
      (rows_fit_lem w form (suc d) r.name b h.1) (rows_fit_lem w form d owner t h.2),
)

laid_sort : (w : ℕ) (form : Form) (x : FlatRow) (s : ℕ) → 1 ≤ s → (s ≡ 1 → x.value ≡ []) → is_value w x.value ≡ true
    → elim (row_sort_of s) as (λ z. Bool) [
      | element ↦ is_none x.value
      | attribute ↦ is_value w x.value
      | text ↦ is_value w x.value && is_none (row_name (names_of form) (attribute_names form) (row_sort_of s) x.index)
    ] ≡ true
laid_sort w form x zero l e v = absurd (omega arith)
laid_sort w form x (suc zero) l e v = ap is_none (e refl)
laid_sort w form x (suc (suc zero)) l e v = v
laid_sort w form x (suc (suc (suc s))) l e v = and_both v refl

rows_laid : (w : ℕ) (form : Form) (d : ℕ) (t : Forest FlatRow) → Every (λ x. RowFits w x.row) (preorder d t) → EveryRow (λ r below. laid_row w r ≡ true) (docs_read form t)
rows_laid w form d bare h = tt
rows_laid w form d (tree x b t) h = (
  laid_sort w form x x.sort h.0.plain.low h.0.element h.0.value,
  rows_laid w form (suc d) b (every_left (λ x. RowFits w x.row) (preorder (suc d) b) (preorder d t) h.1),
  rows_laid w form d t (every_right (λ x. RowFits w x.row) (preorder (suc d) b) (preorder d t) h.1),
)

-- ---- serials
serials_written : (form : Form) (d : ℕ) (owner : Bytes) (t : Forest Row) → serials_of_rows (preorder d (indexed form owner t)) ≡ serials t
serials_written form d owner bare = refl
serials_written form d owner (tree r b t) =
    ap (λ (z : List ℕ). r.serial ∷ z)
    (map-append (λ (x : Deep FlatRow). x.row.serial) (preorder (suc d) (indexed form r.name b)) (preorder d (indexed form owner t))
    ∙ (λ i. serials_written form (suc d) r.name b i ++ serials_written form d owner t i))

serials_are : (next : ℕ) (t : Forest Row) → serials_fit next (serials t) ≡ good_serials next t
unfolding serials_fit good_serials
serials_are next t = refl

-- ---- the store that is read from a flat store
module _ (f : FlatStore) (fit : FieldsFit (value_width f.version) f) (bodies : bodies_fit f ≡ true) (F : IndexForm) (agrees : Agrees f.version F (unflat f).form) where
  checks→ : good (unflat f) ≡ true → flat (unflat f) ≡ f → Checks F f
  checks→ g e =
      let s : Good (unflat f) = (good_is (unflat f)).0 g in
      let ok : well_formed (value_width f.version) (form_of f) ≡ true = (well_formed_lem (value_width f.version) (form_of f)).1 s.form in
      let rows : preorder 0 (indexed (form_of f) [] (unflat f).docs) ≡ f.rows = ap (λ (z : FlatStore). z.rows) e in
      record {
        version = s.version;
        ceilings = ap within_ceilings (sym e) ∙ s.ceilings;
        circle = no_circle (value_width f.version) (form_of f) ok;
        rows = subst (λ (xs : List (Deep FlatRow)). Every (λ x. RowFits (value_width f.version) x.row) xs) rows (rows_fit_lem (value_width f.version) (form_of f) 0 [] (unflat f).docs s.values);
        documents = documents_written (value_width f.version) (form_of f) ok F agrees f.rows (unflat f).docs rows s.docs;
        serials = ap (λ (xs : List (Deep FlatRow)). serials_fit f.next (serials_of_rows xs)) (sym rows)
            ∙ ap (serials_fit f.next) (serials_written (form_of f) 0 [] (unflat f).docs)
            ∙ serials_are f.next (unflat f).docs
            ∙ (good_serials_lem f.next (unflat f).docs).1 s.serials;
      }

  module _ (c : Checks F f) where
    ok : well_formed (value_width f.version) (form_of f) ≡ true
    ok = (form_good (value_width f.version) f fit bodies).1 c.circle

    reads : ReadsAs f.version (form_of f) f.rows (unflat f).docs
    reads =
        subst (λ (t : Forest Row). ReadsAs f.version (form_of f) f.rows t) (docs_read_lem (value_width f.version) f fit bodies)
        (documents_read (value_width f.version) (form_of f) ok F agrees f.rows
        (every_map (λ x. RowFits (value_width f.version) x.row) (λ x. PlainRow x.row) f.rows (λ x h. h.plain) c.rows) c.documents)

    written : flat (unflat f) ≡ f
    written = λ i.
        record {
          version = f.version;
          next = f.next;
          definitions = read_definitions (value_width f.version) f fit bodies i;
          particles = read_particles (value_width f.version) f fit bodies i;
          attributes = read_attributes (value_width f.version) f fit bodies i;
          rows = reads.rows i;
        }

    whole : preorder 0 (build f.rows 0) ≡ f.rows
    whole = ap (λ (xs : List (Deep FlatRow)). preorder 0 (build xs 0)) (sym c.documents.rows) ∙ ap (λ (t : Forest FlatRow). preorder 0 t) (build_preorder c.documents.docs) ∙ c.documents.rows

    laid : EveryRow (λ r below. laid_row (value_width f.version) r ≡ true) (unflat f).docs
    laid =
        subst (λ (t : Forest Row). EveryRow (λ r below. laid_row (value_width f.version) r ≡ true) t) (docs_read_lem (value_width f.version) f fit bodies)
        (rows_laid (value_width f.version) (form_of f) 0 (build f.rows 0) (subst (λ (xs : List (Deep FlatRow)). Every (λ x. RowFits (value_width f.version) x.row) xs) (sym whole) c.rows))

    passing : good (unflat f) ≡ true
    passing =
        (good_is (unflat f)).1
        record {
          version = c.version;
          ceilings = ap within_ceilings written ∙ c.ceilings;
          form = (well_formed_lem (value_width f.version) (form_of f)).0 ok;
          docs = reads.conforming;
          values = laid;
          serials = (good_serials_lem f.next (unflat f).docs).0
              (sym (serials_are f.next (unflat f).docs)
              ∙ ap (serials_fit f.next) (sym (serials_written (form_of f) 0 [] (unflat f).docs) ∙ ap serials_of_rows reads.rows)
              ∙ c.serials);
        }

  -- the tests that are left where fields and bodies fit
  pub checks_read : ((good (unflat f) ≡ true) × (flat (unflat f) ≡ f)) ↔ Checks F f
  checks_read = (λ (g, e). checks→ g e, λ c. (passing c, written c))

-- ---- all tests
pub flat_passes : (f : FlatStore) → ((s : Store) × (flat s ≡ f) × (good s ≡ true)) ↔ FlatPasses f
flat_passes f = (
  λ (s, e, g). subst FlatPasses e (to s g),
  λ p.
      let (g, e) = (checks_read f p.fields p.bodies (flat_index_form f) (form_agrees (value_width f.version) f p.fields p.bodies f.version)).1 p.checks in
      (unflat f, e, g),
)
  where
    to : (s : Store) → good s ≡ true → FlatPasses (flat s)
    to s g =
        let back : unflat (flat s) ≡ s = unflat_flat s (good_known s g) (good_found s g) in
        let fit : FieldsFit (value_width s.version) (flat s) = good_fields s g in
        let bodies : bodies_fit (flat s) ≡ true = good_bodies s g in
        record {
          fields = fit;
          bodies = bodies;
          checks = (checks_read (flat s) fit bodies (flat_index_form (flat s)) (form_agrees (value_width s.version) (flat s) fit bodies s.version)).0 (ap good back ∙ g, ap flat back);
        }

-- a byte string passes just where it is written from bodies that do
pub passes_flat : (bs : Bytes) → (passes bs ≡ true) ↔ ((f : FlatStore) × (flat_bytes (value_width f.version) f ≡ bs) × FlatPasses f)
passes_flat bs = (
  λ h.
      let (s, e, g) = (passes_tests bs).0 h in
      (flat s, e, (flat_passes (flat s)).0 (s, refl, g)),
  λ (f, e, p).
      let (s, q, g) = (flat_passes f).1 p in
      (passes_tests bs).1 (s, ap (λ (z : FlatStore). flat_bytes (value_width z.version) z) q ∙ e, g),
)

-- the bodies that a byte string is read as
abbrev pub flat_of : Bytes → FlatStore
flat_of bs = read_flat (value_width (number_at version_at 4 bs)) bs

read_encoded : (s : Store) → good s ≡ true → flat_of (encode s) ≡ flat s
read_encoded s g =
    ap (λ (v : ℕ). read_flat (value_width v) (encode s)) (unle_le 4 s.version (good_flat s g).version) ∙ read_bytes (value_width s.version) (flat s) (good_flat s g)

-- a byte string passes just where it is what its reading is written as, and its bodies pass
pub passes_read : (bs : Bytes) → (passes bs ≡ true) ↔ ((flat_bytes (value_width (number_at version_at 4 bs)) (flat_of bs) ≡ bs) × FlatPasses (flat_of bs))
passes_read bs = (to, λ (e, p). (passes_flat bs).1 (flat_of bs, e, p))
  where
    to : passes bs ≡ true → (flat_bytes (value_width (number_at version_at 4 bs)) (flat_of bs) ≡ bs) × FlatPasses (flat_of bs)
    to h =
        let (s, e, g) = (passes_tests bs).0 h in
        let q : flat_of bs ≡ flat s = ap flat_of (sym e) ∙ read_encoded s g in
        (ap (λ (f : FlatStore). flat_bytes (value_width f.version) f) q ∙ e, subst FlatPasses (sym q) ((flat_passes (flat s)).0 (s, refl, g)))
