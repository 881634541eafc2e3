-- What the check tests of the flat bodies of a store, and what they say by index.
use Rattle.std.specs.Prelude.{ℕ, zero, suc, ◌<◌, ◌≤◌, ◌≡◌, ◌⊎◌, Bool, true, ◌&&◌, leb, ltb, length, take, drop, get_or}
use mathlib.Core.List.{List, [], ◌∷◌, map, Memᴰ}
use Rattle.rules.specs.Bytes.{Bytes, numbers, all}
use Rattle.rules.specs.Model.{names, rename, distinct}
use Rattle.rules.specs.Store.{Form, text, Row, Forest, members}
use Rattle.rules.specs.Preorder.{Deep, preorder, build}
use Rattle.rules.specs.Layout.{value_width, FlatDefinition, FlatParticle, FlatAttribute, FlatRow, FlatStore, kind_code, all_attributes, indexed}
use Rattle.rules.specs.Decode.{name_at, sort_of, unflat}
use Rattle.rules.specs.WellFormed.{stored_name, is_value, highest_number, within_ceilings, definition_name, Reaches, is_fill}
use Rattle.rules.specs.Conforming.{EveryRow, Conforming, must_be_present, allows}
use Rattle.rules.specs.Passing.{known_version}
use Rattle.rules.specs.Change.{definition_at}
use Rattle.rules.proofs.BooleanLaws.{Every}
use Rattle.model.specs.Members.{index_members}
use Rattle.form_check.specs.FormTests.{bodies_fit}
use Rattle.form_index.specs.Indices.{IndexForm, Documents}

-- ---- the fields of single records
pub record DefinitionFits (d : FlatDefinition) : Type 0 where
  pub name : stored_name d.name ≡ true
  pub kind : d.kind ≤ 2
  pub part : (d.kind ≡ 2) ⊎ (d.particles ≡ 0)

-- n definitions are there
pub record AttributeFits (w n : ℕ) (a : FlatAttribute) : Type 0 where
  pub owner : a.owner < n
  pub name : stored_name a.name ≡ true
  pub sort : a.sort ≤ 2
  pub value : is_value w a.value ≡ true
  pub fill : is_fill (sort_of a.sort) a.value ≡ true

pub record FieldsFit (w : ℕ) (f : FlatStore) : Type 0 where
  pub definitions : Every DefinitionFits f.definitions
  pub attributes : Every (AttributeFits w (length f.definitions)) f.attributes

-- ---- the form by index
-- the part of definition i in the particle body
abbrev pub part_at : ℕ → List FlatDefinition → List (Deep FlatParticle) → List (Deep FlatParticle)
part_at i [] ps = []
part_at zero (d ∷ ds) ps = take d.particles ps
part_at (suc i) (d ∷ ds) ps = part_at i ds (drop d.particles ps)

abbrev pub no_flat_definition : FlatDefinition
no_flat_definition = record { name = []; kind = 0; particles = 0 }

abbrev pub no_attribute : FlatAttribute
no_attribute = record { owner = 0; name = []; sort = 0; value = [] }

abbrev pub entry_of : ℕ → List FlatAttribute → FlatAttribute
entry_of j cs = get_or cs j no_attribute

-- in a store of a version
abbrev pub form_at : ℕ → FlatStore → IndexForm
form_at version f =
    record {
      size = length f.definitions;
      kind = λ i. (get_or f.definitions i no_flat_definition).kind;
      model = λ i. index_members (build (part_at i f.definitions f.particles) 0);
      attributes = length f.attributes;
      owner = λ j. (entry_of j f.attributes).owner;
      needed = λ j. must_be_present version (sort_of (entry_of j f.attributes).sort);
      allows = λ j v. allows (sort_of (entry_of j f.attributes).sort) (entry_of j f.attributes).value v;
    }

abbrev pub flat_index_form : FlatStore → IndexForm
flat_index_form f = form_at f.version f

-- an index form says what a form says in a store of a version
pub record Agrees (version : ℕ) (F : IndexForm) (form : Form) : Type 0 where
  pub size : F.size ≡ length form
  pub kind : (i : ℕ) → i < length form → F.kind i ≡ kind_code (definition_at i form).content
  pub model : (i : ℕ) → i < length form → members (definition_at i form) ≡ rename (λ j. name_at j (map definition_name form)) (F.model i)
  pub in_range : (i : ℕ) → i < length form → (j : ℕ) → Memᴰ j (names (F.model i)) → j < length form
  pub attributes : F.attributes ≡ length (all_attributes 0 form)
  pub owner : (j : ℕ) → j < length (all_attributes 0 form) → F.owner j ≡ (entry_of j (all_attributes 0 form)).owner
  pub needed : (j : ℕ) → j < length (all_attributes 0 form) → F.needed j ≡ must_be_present version (sort_of (entry_of j (all_attributes 0 form)).sort)
  pub allows : (j : ℕ) → j < length (all_attributes 0 form) → (v : Bytes) → F.allows j v ≡ allows (sort_of (entry_of j (all_attributes 0 form)).sort) (entry_of j (all_attributes 0 form)).value v

-- ---- documents
-- the sort of a row, and what it says of the index: a text has none
pub record PlainRow (x : FlatRow) : Type 0 where
  pub low : 1 ≤ x.sort
  pub high : x.sort ≤ 3
  pub text : x.sort ≡ 3 → x.index ≡ 0

-- the fields of a row apart from its depth and serial: an element has no value
pub record RowFits (w : ℕ) (x : FlatRow) : Type 0 where
  pub plain : PlainRow x
  pub value : is_value w x.value ≡ true
  pub element : x.sort ≡ 1 → x.value ≡ []

-- documents that are written as the rows xs, and conform in a store of a version
pub record ReadsAs (version : ℕ) (form : Form) (xs : List (Deep FlatRow)) (docs : Forest Row) : Type 0 where
  pub rows : preorder 0 (indexed form [] docs) ≡ xs
  pub conforming : Conforming version form docs
  pub unnamed : EveryRow (λ r below. r.sort ≡ text → r.name ≡ []) docs

-- ---- the whole store
abbrev pub serials_of_rows : List (Deep FlatRow) → List ℕ
serials_of_rows xs = map (λ (x : Deep FlatRow). x.row.serial) xs

unfoldable pub serials_fit : ℕ → List ℕ → Bool
serials_fit next ks = distinct numbers ks && (all (λ k. leb 1 k && ltb k next) ks && (leb 1 next && leb next highest_number))

-- what is left to test where the fields and the bodies of a form fit; F: the form by index
pub record Checks (F : IndexForm) (f : FlatStore) : Type 0 where
  pub version : known_version f.version ≡ true
  pub ceilings : within_ceilings f ≡ true
  pub circle : (n : Bytes) → Reaches (unflat f).form n n → ⊥
  pub rows : Every (λ x. RowFits (value_width f.version) x.row) f.rows
  pub documents : Documents F f.rows
  pub serials : serials_fit f.next (serials_of_rows f.rows) ≡ true

-- all tests
pub record FlatPasses (f : FlatStore) : Type 0 where
  pub fields : FieldsFit (value_width f.version) f
  pub bodies : bodies_fit f ≡ true
  pub checks : Checks (flat_index_form f) f
