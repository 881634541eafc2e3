-- The filling by indices is the filling of the rules, written.
use Prim.Native.Nat.{ℕ, zero, suc, ◌+◌, ◌<◌}
use native.Mathlib.Omega.{arith}
use borrow.Author.Tests.{eq-eqb, ne_eqb}
use mathlib.Core.Path.{◌≡◌, refl, sym, ap, ap₂, subst, ◌∙◌}
use mathlib.Core.Bool.{Bool, true, false, ◌&&◌}
use mathlib.Core.List.{List, [], ◌∷◌, ◌++◌, map, append_assoc, append-nil, Memᴰ}
use lib.Dec.{eqb}
use lib.ListN.{length}
use Rattle.rules.specs.declared.GroupKind.TheVariants.{Sequence}
use Rattle.rules.specs.Bytes.{Bytes}
use Rattle.rules.specs.Model.{Members, rename, filling}
use Rattle.rules.specs.Store.{Content, empty, pcdata, complex, Attribute, Form, Row, Forest, bare, tree, ◌⧺◌, Store, model_of}
use Rattle.rules.specs.Preorder.{Deep, preorder}
use Rattle.rules.specs.Layout.{value_width, FlatAttribute, FlatRow, flat, kind_code, own_attributes, all_attributes, indexed}
use Rattle.rules.specs.Decode.{name_at, sort_of}
use Rattle.rules.specs.WellFormed.{WellFormed}
use Rattle.rules.specs.Conforming.{must_be_present}
use Rattle.rules.specs.Passing.{good}
use Rattle.rules.specs.Change.{definition_at, name_at_index}
use Rattle.rules.specs.Filling.{created_value, attribute_row, fill_attributes, fill_each, fill_content, fill_within, fill_definition}
use Rattle.rules.proofs.DecodeLaws.{unflat_flat, good_known, good_found, sort_code_lem}
use Rattle.rules.proofs.WellFormedLaws.{definition_stands}
use Rattle.rules.proofs.PassingLaws.{good_is}
use Rattle.rules.proofs.RenamingPlaces.{filling_rename}
use Rattle.rules.proofs.FillingLaws.{fill_below, fill_known, in_filling}
use Rattle.form_index.specs.Indices.{IndexForm}
use Rattle.store_check.specs.Reading.{entry_of, flat_index_form, Agrees}
use Rattle.store_check.proofs.IndexLaws.{names_of, index_name, lookup_at, name_of_lem}
use Rattle.store_check.proofs.AttributeBlocks.{offset, Block, block_at}
use Rattle.store_check.proofs.FormGood.{form_agrees, good_bodies, good_fields}
use Rattle.filling.specs.declared.Filling.TheVariants.{Definition}
use Rattle.filling.specs.Fillings.{new_element, new_attribute_row, required_rows, fillings_of, content_rows, fill_index, filling_rows}
use Rattle.filling.specs.Parts.{value_of}
use Rattle.planned_rows.specs.Planned.{members_at}

-- ---- forests side by side
pub preorder_beside : {A : Type 0} (d : ℕ) (f g : Forest A) → preorder d (f ⧺ g) ≡ preorder d f ++ preorder d g
preorder_beside d bare g = refl
preorder_beside {A} d (tree r b t) g =
    ap (λ (z : List (Deep A)). record { depth = d; row = r } ∷ z)
    (ap (λ (z : List (Deep A)). preorder (suc d) b ++ z) (preorder_beside d t g) ∙ sym (append_assoc (preorder (suc d) b) (preorder d t) (preorder d g)))

pub indexed_beside : (form : Form) (owner : Bytes) (f g : Forest Row) → indexed form owner (f ⧺ g) ≡ indexed form owner f ⧺ indexed form owner g
indexed_beside form owner bare g = refl
indexed_beside form owner (tree r b t) g = rw (indexed_beside form owner t g)

-- ---- the required attributes of definition i in a table of attributes from number j on, and those of its own table
abbrev required_of : ℕ → ℕ → ℕ → ℕ → List FlatAttribute → List (Deep FlatRow)
required_of version d i j [] = []
required_of version d i j (c ∷ cs) =
    elim (eqb c.owner i && must_be_present version (sort_of c.sort)) [
      | true ↦ new_attribute_row d j (value_of c) ∷ required_of version d i (suc j) cs
      | false ↦ required_of version d i (suc j) cs
    ]

abbrev required_in : ℕ → ℕ → ℕ → List Attribute → List (Deep FlatRow)
required_in version d j [] = []
required_in version d j (a ∷ table) =
    elim (must_be_present version a.sort) [
      | true ↦ new_attribute_row d j (created_value a.sort a.value) ∷ required_in version d (suc j) table
      | false ↦ required_in version d (suc j) table
    ]

module _ (version d i : ℕ) where
  others : (o j : ℕ) (table : List Attribute) (rest : List FlatAttribute) → (o ≡ i → ⊥) → required_of version d i j (own_attributes o table ++ rest) ≡ required_of version d i (j + length table) rest
  others o j [] rest n = ap (λ (k : ℕ). required_of version d i k rest) (let e : j ≡ j + 0 = omega arith in e)
  others o j (a ∷ table) rest n =
      rw (ne_eqb o i n, required_of) (others o (suc j) table rest n ∙ ap (λ (k : ℕ). required_of version d i k rest) (let e : suc j + length table ≡ j + suc (length table) = omega arith in e))

  own : (j : ℕ) (table : List Attribute) (rest : List FlatAttribute)
      → required_of version d i j (own_attributes i table ++ rest) ≡ required_in version d j table ++ required_of version d i (j + length table) rest
  own j [] rest = ap (λ (k : ℕ). required_of version d i k rest) (let e : j ≡ j + 0 = omega arith in e)
  own j (a ∷ table) rest =
      rw (eq-eqb i i refl, sort_code_lem a.sort, required_of)
      (by (must_be_present version a.sort)
      (own (suc j) table rest
      ∙ ap (λ (k : ℕ). required_in version d (suc j) table ++ required_of version d i k rest)
      (let e : suc j + length table ≡ j + suc (length table) = omega arith in e)))
    where
      L : List (Deep FlatRow)
      L = required_of version d i (suc j) (own_attributes i table ++ rest)

      R : List (Deep FlatRow)
      R = required_of version d i (j + suc (length table)) rest

      by : (b : Bool) → L ≡ required_in version d (suc j) table ++ R
          → elim b as (λ z. List (Deep FlatRow)) [ true ↦ new_attribute_row d j (created_value a.sort a.value) ∷ L | false ↦ L ]
          ≡ (elim b as (λ z. List (Deep FlatRow)) [
            | true ↦ new_attribute_row d j (created_value a.sort a.value) ∷ required_in version d (suc j) table
            | false ↦ required_in version d (suc j) table
          ])
          ++ R
      by true e = ap (λ (z : List (Deep FlatRow)). new_attribute_row d j (created_value a.sort a.value) ∷ z) e
      by false e = e

  later : (o j : ℕ) (fs : Form) → i < o → required_of version d i j (all_attributes o fs) ≡ []
  later o j [] l = refl
  later o j (f ∷ fs) l = others o j f.attributes (all_attributes (suc o) fs) (λ e. omega arith) ∙ later (suc o) (j + length f.attributes) fs (omega arith)

  -- of all attributes
  whole : (o j k : ℕ) (fs : Form) → k < length fs → i ≡ o + k → required_of version d i j (all_attributes o fs) ≡ required_in version d (j + offset k fs) (definition_at k fs).attributes
  whole o j k [] l e = absurd (omega arith)
  whole o j zero (f ∷ fs) l e =
      let q : o ≡ i = omega arith in
      ap (λ (z : ℕ). required_of version d i j (own_attributes z f.attributes ++ all_attributes (suc o) fs)) q
      ∙ own j f.attributes (all_attributes (suc o) fs)
      ∙ ap (λ (z : List (Deep FlatRow)). required_in version d j f.attributes ++ z) (later (suc o) (j + length f.attributes) fs (omega arith))
      ∙ append-nil (required_in version d j f.attributes)
      ∙ ap (λ (z : ℕ). required_in version d z f.attributes) (let p : j ≡ j + 0 = omega arith in p)
  whole o j (suc k) (f ∷ fs) l e =
      others o j f.attributes (all_attributes (suc o) fs) (λ q. omega arith)
      ∙ whole (suc o) (j + length f.attributes) k fs (omega arith) (omega arith)
      ∙ ap (λ (z : ℕ). required_in version d z (definition_at k fs).attributes) (let p : j + length f.attributes + offset k fs ≡ j + (length f.attributes + offset k fs) = omega arith in p)

-- ---- a form by indices and by names
module _ (version w : ℕ) (form : Form) (ok : WellFormed w form) (F : IndexForm) (agrees : Agrees version F form) (value : ℕ → Bytes)
    (values : (j : ℕ) → j < length (all_attributes 0 form) → value j ≡ value_of (entry_of j (all_attributes 0 form))) (txt : Bytes) where
  -- the table read by indices
  rows_read_lem : (d i j : ℕ) (cs : List FlatAttribute)
      → ((k : ℕ) → k < length cs
      → (F.owner (j + k) ≡ (entry_of k cs).owner) × (F.needed (j + k) ≡ must_be_present version (sort_of (entry_of k cs).sort))
      × (value (j + k) ≡ value_of (entry_of k cs)))
      → required_rows F value d i j (length cs) ≡ required_of version d i j cs
  unfolding required_rows
  rows_read_lem d i j [] t = refl
  rows_read_lem d i j (c ∷ cs) t =
      let e : j + 0 ≡ j = omega arith in
      let (o, n, v) = t 0 (omega arith) in
      let o₁ : F.owner j ≡ c.owner = ap F.owner (sym e) ∙ o in
      let n₁ : F.needed j ≡ must_be_present version (sort_of c.sort) = ap F.needed (sym e) ∙ n in
      let v₁ : value j ≡ value_of c = ap value (sym e) ∙ v in
      let rest : required_rows F value d i (suc j) (length cs) ≡ required_of version d i (suc j) cs =
      rows_read_lem d i (suc j) cs
      (λ k l. subst
      (λ (z : ℕ). (F.owner z ≡ (entry_of k cs).owner) × (F.needed z ≡ must_be_present version (sort_of (entry_of k cs).sort))
      × (value z ≡ value_of (entry_of k cs)))
      (let q : j + suc k ≡ suc j + k = omega arith in q) (t (suc k) (omega arith))) in
      λ z. elim (eqb (o₁ z) i && n₁ z) as (λ b. List (Deep FlatRow)) [ true ↦ new_attribute_row d j (v₁ z) ∷ rest z | false ↦ rest z ]

  required_index : (d i : ℕ) → i < length form → required_rows F value d i 0 F.attributes ≡ required_in version d (offset i form) (definition_at i form).attributes
  required_index d i l =
      ap (required_rows F value d i 0) agrees.attributes
      ∙ rows_read_lem d i 0 (all_attributes 0 form) (λ k m. let q : k ≡ 0 + k = omega arith in
      subst
      (λ (z : ℕ). (F.owner z ≡ (entry_of k (all_attributes 0 form)).owner)
      × (F.needed z ≡ must_be_present version (sort_of (entry_of k (all_attributes 0 form)).sort)) × (value z ≡ value_of (entry_of k (all_attributes 0 form))))
      q (agrees.owner k m, agrees.needed k m, values k m))
      ∙ whole version d i 0 0 i form l (omega arith)
      ∙ ap (λ (z : ℕ). required_in version d z (definition_at i form).attributes) (let p : 0 + offset i form ≡ offset i form = omega arith in p)

  -- the attributes' rows, then the content
  attributes_index : (d i j : ℕ) (table : List Attribute) (content : Forest Row) → Block version F form i j table
      → preorder d (indexed form (name_at i (names_of form)) (fill_attributes version table content)) ≡ required_in version d j table ++ preorder d (indexed form (name_at i (names_of form)) content)
  unfolding fill_attributes
  attributes_index d i j [] content b = refl
  attributes_index d i j (a ∷ table) content b = by (must_be_present version a.sort) (attributes_index d i (suc j) table content b.1)
    where
      n : Bytes
      n = name_at i (names_of form)

      C : List (Deep FlatRow)
      C = preorder d (indexed form n content)

      by : (c : Bool) → preorder d (indexed form n (fill_attributes version table content)) ≡ required_in version d (suc j) table ++ C
          → preorder d (indexed form n (elim c as (λ z. Forest Row) [ true ↦ tree (attribute_row a) bare (fill_attributes version table content) | false ↦ fill_attributes version table content ]))
          ≡ (elim c as (λ z. List (Deep FlatRow)) [
            | true ↦ new_attribute_row d j (created_value a.sort a.value) ∷ required_in version d (suc j) table
            | false ↦ required_in version d (suc j) table
          ])
          ++ C
      by true e = ap₂ (λ (k : ℕ) (z : List (Deep FlatRow)). new_attribute_row d k (created_value a.sort a.value) ∷ z) b.0.found e
      by false e = e

  -- fillings one after the other, from those of each
  each_index : (d : ℕ) (owner : Bytes) (fill : Bytes → Forest Row) (rows : ℕ → List (Deep FlatRow)) (is : List ℕ)
      → ((i : ℕ) → Memᴰ i is → preorder d (indexed form owner (fill (name_at i (names_of form)))) ≡ rows i)
      → preorder d (indexed form owner (fill_each fill (map (λ i. name_at i (names_of form)) is))) ≡ fillings_of F value rows is
  unfolding fill_each fillings_of
  each_index d owner fill rows [] f = refl
  each_index d owner fill rows (i ∷ is) f =
      ap (λ (z : Forest FlatRow). preorder d z) (indexed_beside form owner (fill (name_at i (names_of form))) (fill_each fill (map (λ i. name_at i (names_of form)) is)))
      ∙ preorder_beside d (indexed form owner (fill (name_at i (names_of form)))) (indexed form owner (fill_each fill (map (λ i. name_at i (names_of form)) is)))
      ∙ ap₂ (λ (u v : List (Deep FlatRow)). u ++ v) (f i (Memᴰ.head refl)) (each_index d owner fill rows is (λ k m. f k (Memᴰ.tail m)))

  module _ (d i : ℕ) (l : i < length form) (owner : Bytes) (fill : Bytes → Forest Row) (rows : ℕ → List (Deep FlatRow))
      (below : (k : ℕ) → k < length form → preorder d (indexed form owner (fill (name_at k (names_of form)))) ≡ rows k) where
    content_index : preorder d (indexed form owner (fill_content fill txt (definition_at i form).content)) ≡ content_rows F value rows txt d (F.model i) (F.kind i)
    unfolding fill_content content_rows
    content_index = by (definition_at i form).content refl ∙ ap (content_rows F value rows txt d (F.model i)) (sym (agrees.kind i l))
      where
        by : (c : Content) → (definition_at i form).content ≡ c → preorder d (indexed form owner (fill_content fill txt c)) ≡ content_rows F value rows txt d (F.model i) (kind_code c)
        by empty q = refl
        by pcdata q = refl
        by (complex ms) q =
            let e : ms ≡ rename (λ j. name_at j (names_of form)) (F.model i) = sym (ap model_of q) ∙ agrees.model i l in
            ap (λ (z : Members Bytes). preorder d (indexed form owner (fill_each fill (filling Sequence z)))) e
            ∙ ap (λ (z : List Bytes). preorder d (indexed form owner (fill_each fill z))) (filling_rename (λ j. name_at j (names_of form)) Sequence (F.model i))
            ∙ each_index d owner fill rows (filling Sequence (F.model i)) (λ k m. below k (agrees.in_range i l k (in_filling k Sequence (F.model i) m)))

  -- of at most height h, at depth d
  named_index : (h d i : ℕ) (owner : Bytes) → i < length form → preorder d (indexed form owner (fill_within version h form txt (name_at i (names_of form)))) ≡ fill_index F value h txt d i
  unfolding fill_within fill_index
  named_index zero d i owner l = refl
  named_index (suc h) d i owner l =
      ap (λ (z : Forest Row). preorder d (indexed form owner z)) (fill_known version h form txt n (definition_at i form) (lookup_at form ok.names i l))
      ∙ ap₂ (λ (k : ℕ) (z : List (Deep FlatRow)). new_element d k ∷ z) (index_name form ok.names i l)
      (append-nil (preorder (suc d) (indexed form n (fill_below version h form txt (definition_at i form))))
      ∙ attributes_index (suc d) i (offset i form) (definition_at i form).attributes
      (fill_content (λ m. fill_within version h form txt m) txt (definition_at i form).content)
      (block_at version F form agrees ok.names i l (ok.definitions (definition_at i form) (definition_stands form i l)).attribute_names)
      ∙ ap₂ (λ (u v : List (Deep FlatRow)). u ++ v) (sym (required_index (suc d) i l))
      (content_index (suc d) i l n (λ m. fill_within version h form txt m) (λ k. fill_index F value h txt (suc d) k) (λ k m. named_index h (suc d) k n m)))
    where
      n : Bytes
      n = name_at i (names_of form)

  pub fill_index_lem : (h d i : ℕ) (owner : Bytes) → i < length form → preorder d (indexed form owner (fill_within version h form txt (name_at_index i form))) ≡ fill_index F value h txt d i
  fill_index_lem h d i owner l = ap (λ (z : Bytes). preorder d (indexed form owner (fill_within version h form txt z))) (sym (name_of_lem form i l)) ∙ named_index h d i owner l

-- THE FILLING OF A DEFINITION of a store that passes is written as the rows of its filling by indices
pub filling_index : (s : Store) → good s ≡ true → (txt : Bytes) (d i : ℕ) (owner : Bytes) → i < length s.form
    → preorder d (indexed s.form owner (fill_definition s.version s.form txt (name_at_index i s.form)))
    ≡ filling_rows (flat_index_form (flat s)) (λ j. value_of (entry_of j (flat s).attributes)) (λ a b. members_at (flat s) a b) (Definition i) txt d
filling_index s g txt d i owner l =
    let back = unflat_flat s (good_known s g) (good_found s g) in
    let agrees : Agrees s.version (flat_index_form (flat s)) s.form =
    subst (λ (z : Store). Agrees s.version (flat_index_form (flat s)) z.form) back
    (form_agrees (value_width s.version) (flat s) (good_fields s g) (good_bodies s g) s.version) in
    fill_index_lem s.version (value_width s.version) s.form ((good_is s).0 g).form (flat_index_form (flat s)) agrees
    (λ j. value_of (entry_of j (flat s).attributes)) (λ j m. refl) txt (length s.form) d i owner l
    ∙ ap (λ (h : ℕ). fill_index (flat_index_form (flat s)) (λ j. value_of (entry_of j (flat s).attributes)) h txt d i) (sym agrees.size)
