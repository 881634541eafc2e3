-- The conditions of 14 and 15: what the code finds, put together.
use Prim.Native.Nat.{ℕ, suc, ◌<◌, ◌≤◌}
use native.Mathlib.Omega.{arith}
use borrow.Author.Tests.{eq-eqb, not-false}
use mathlib.Core.Path.{◌≡◌, refl, sym, ap, ap₂, ◌∙◌, subst}
use mathlib.Core.Logic.{⊎_elim}
use mathlib.Core.Bool.{Bool, true, false, ◌&&◌, ◌||◌, not, false≢true, not-not}
use mathlib.Core.Option as maybe
use mathlib.Core.Option.{none, some, some-injective}
use Rattle.std.specs.Option as option
use Rattle.std.specs.Prelude.{Option, None, Some, slice_get, unwrap_or}
use mathlib.Core.List.Memᴰ
use mathlib.Core.List.{List, [], ◌∷◌, map, Memᴰ}
use lib.Dec.{eqb}
use lib.ListN.{length}
use Rattle.rules.specs.Bytes.{Bytes, same, same_eq, bytes, is_none}
use Rattle.rules.specs.Model.{Distinct}
use Rattle.rules.specs.Store.{Attribute, Definition, Form, RowSort, element, attribute, text, Row, Forest, heads}
use Rattle.rules.specs.Layout.{FlatRow, value_width, row_code, index_of, attribute_index}
use Rattle.rules.specs.Decode.{number_at, attribute_count, sort_of}
use Rattle.rules.specs.WellFormed.{lookup, is_there, known, is_value, attribute_name}
use Rattle.rules.specs.Conforming.{name_of, ElementRows, RowConforms, is_attribute, must_be_present, allows, conforming}
use Rattle.rules.specs.Lines.{element_with, attribute_named, find_row, children_of, serial_at}
use Rattle.rules.specs.Change.{set_attribute, destroy_attribute_row, Owned, attribute_at, definition_at, after}
use Rattle.rules.specs.Refusal.{Condition, ◌if◌, first, conditions, rows_of, no_element, unknown_attribute, is_other, is_absent}
use Rattle.change_laws.proofs.RowEdits.{row_serial, keep}
use Rattle.rules.proofs.Apart.{differs}
use Rattle.change_laws.proofs.Rowwise.{Standing}
use Rattle.change_laws.proofs.FormLaws.{attribute_owned, owner_found, owner_at_lem, owner_below}
use Rattle.change_laws.proofs.StandingLaws.{standing_every, found_element, children_are}
use Rattle.form_index.specs.Indices.{IndexForm}
use Rattle.layout.specs.Bodies.{width_of, WidthIn, attributes_in}
use Rattle.form_index.specs.Reading.{attribute_in, by_index}
use Rattle.store_check.proofs.IndexLaws.{known_index, index_once}
use Rattle.store_check.proofs.AttributeBlocks.{Entry, Block, offset}
use Rattle.store_check.proofs.AttributeRows.{row_written, index_written}
use Rattle.store_check.proofs.ElementReads.{block}
use Rattle.store_laws.specs.Stores.{store_in}
use Rattle.plans.proofs.AttributeIndices.{own_index, name_index}
use Rattle.plans.specs.CallPlans.{attribute_serial}
use Rattle.document_rows.specs.Finding as flat
use Rattle.attribute_row_refusals.specs.Refused.{AttributeRefused}
use Rattle.document_rows.specs.Finding.{row_in, children_at}
use Rattle.change_laws.specs.FirstCondition.{Gives}
use Rattle.document_rows.proofs.TreeLaws.{of_sort}
use Rattle.document_rows.proofs.RowFacts.{serial_or_none}
use Rattle.store_check.proofs.StoreFacts.{form_in, docs_in, Whole, bad_text_lem, fine_text}
use Rattle.document_rows.proofs.ElementFacts.{Element, NoElement, defined, children_at_lem, any_found, element_conforms}
use Rattle.document_refusals.proofs.ElementsAfter.{ok}
use Rattle.attribute_row_refusals.proofs.AttributesAfter.{drop_conforms, set_conforms}
use Rattle.change_laws.proofs.FirstCondition.{gives_hit, gives_next, gives_none}
use Rattle.store_check.proofs.AttributeOwners.{owned, unowned}
use Rattle.change_laws.proofs.InstanceRows.{keep_no, keep_yes}
use Rattle.rules.proofs.ConformingLaws.{is_element_lem}
use Rattle.layout.specs.Fields.{version_at}

serial_this : (a : ℕ) (r : FlatRow) (rs : List FlatRow) → eqb r.index a ≡ true → flat.serial_of_index a (r ∷ rs) ≡ Some r.serial
serial_this a r rs e = rw (e, flat.serial_of_index)

serial_next : (a : ℕ) (r : FlatRow) (rs : List FlatRow) → eqb r.index a ≡ false → flat.serial_of_index a (r ∷ rs) ≡ flat.serial_of_index a rs
serial_next a r rs e = rw (e, flat.serial_of_index)

-- none stands just where there is no first
no_first : (ss : List ℕ) → is_none ss ≡ option.is_none (slice_get ss 0)
no_first [] = refl
no_first (k ∷ ss) = refl

unmet : (x y : Bool) (n : ℕ) → n ≡ first ((6 if x) ∷ (7 if y) ∷ []) → n ≡ 0 → (x ≡ false) × (y ≡ false)
unmet true y n e h = absurd (omega arith)
unmet false true n e h = absurd (omega arith)
unmet false false n e h = (refl, refl)

held : (x y : Bool) (n : ℕ) (ds : List Condition) → n ≡ first ((6 if x) ∷ (7 if y) ∷ []) → (n ≡ 0 → ⊥) → Gives n ((6 if x) ∷ (7 if y) ∷ ds)
held true y n ds e f = record { is = e }
held false true n ds e f = record { is = e }
held false false n ds e f = absurd (f e)

held_or : (x y z : Bool) (n : ℕ) (ds : List Condition) → n ≡ first ((6 if x) ∷ (7 if y) ∷ []) → (n ≡ 0 → ⊥) → Gives n ((6 if x) ∷ (7 if (y || z)) ∷ ds)
held_or true y z n ds e f = record { is = e }
held_or false true z n ds e f = record { is = e }
held_or false false z n ds e f = absurd (f e)

block_entry : (version : ℕ) (F : IndexForm) (form : Form) (i j : ℕ) (table : List Attribute) → Block version F form i j table → (a : Attribute)
    → Memᴰ a table → (k : ℕ) × Entry version F form i k a
block_entry version F form i j [] b a m = absurd (Memᴰ.not-nil m)
block_entry version F form i j (c ∷ table) b a m =
    ⊎_elim (λ e. (j, subst (λ (z : Attribute). Entry version F form i j z) (sym e) b.0)) (λ n. block_entry version F form i (suc j) table b.1 a n)
    (Memᴰ.cases_cons m)

-- what the readers of an attribute find, at the width and in the body that were read
module _ (bs : Bytes) {n : ℕ} {attrs : Bytes} (v : n ≡ width_of bs) (e : attrs ≡ attributes_in bs) (a : ℕ) where
  pub allows_in : (t : Bytes) → allows (sort_of (attribute_in n attrs a).sort) (attribute_in n attrs a).value t ≡ (by_index bs).allows a t
  allows_in t = λ i. allows (sort_of (attribute_in (v i) (e i) a).sort) (attribute_in (v i) (e i) a).value t

  pub needs_in : {version : ℕ} → version ≡ number_at version_at 4 bs → (i : ℕ) → (eqb (attribute_in n attrs a).owner i && must_be_present version (sort_of (attribute_in n attrs a).sort))
      ≡ (eqb (attribute_in (width_of bs) (attributes_in bs) a).owner i && (by_index bs).needed a)
  needs_in u i = λ j. eqb (attribute_in (v j) (e j) a).owner i && must_be_present (u j) (sort_of (attribute_in (v j) (e j) a).sort)

module _ (bs : Bytes) (w : Whole bs) (a : ℕ) where
  apart : (d : Definition) → Memᴰ d (form_in bs) → Distinct (map attribute_name d.attributes)
  apart d m = (w.good.form.definitions d m).attribute_names

  module _ (o : Owned) (at : attribute_at a (form_in bs) ≡ some o) where
    abbrev index : ℕ
    index = index_of o.owner.name (form_in bs)

    is_known : known (form_in bs) o.owner.name ≡ true
    is_known = ap is_there (owner_found a (form_in bs) w.good.form.names o at)

    entry : Entry (store_in bs).version (by_index bs) (form_in bs) index a o.attribute
    entry =
        let l : index < length (form_in bs) = owner_below a (form_in bs) w.good.form.names o at in
        let (k, e) = block_entry (store_in bs).version (by_index bs) (form_in bs) index (offset index (form_in bs)) (definition_at index (form_in bs)).attributes
        (block (value_width (store_in bs).version) (form_in bs) (ok (store_in bs) w.good) (by_index bs) w.agrees index l) o.attribute
        (subst (λ (z : Definition). Memᴰ o.attribute z.attributes) (sym (owner_at_lem a (form_in bs) w.good.form.names o at)) (attribute_owned a (form_in bs) o at).1) in
        subst (λ (z : ℕ). Entry (store_in bs).version (by_index bs) (form_in bs) index z o.attribute)
        (sym e.found ∙ ap (λ (z : Bytes). attribute_index z o.attribute.name (form_in bs)) (known_index (form_in bs) o.owner.name is_known).name
        ∙ own_index a (form_in bs) o w.good.form.names apart at)
        e

    -- ---- of an element
    module _ {k i : ℕ} (f : Element bs k i) where
      row_known : known (form_in bs) f.row.name ≡ true
      row_known = ap is_there (defined bs w k i f).found

      pub mine : (attribute_in (width_of bs) (attributes_in bs) a).owner ≡ (row_in bs i).row.index → o.owner.name ≡ f.row.name
      mine e = index_once (form_in bs) o.owner.name f.row.name is_known row_known (sym entry.owner ∙ e ∙ (defined bs w k i f).index)

      pub not_mine : ((attribute_in (width_of bs) (attributes_in bs) a).owner ≡ (row_in bs i).row.index → ⊥) → same o.owner.name f.row.name ≡ false
      not_mine h = differs bytes o.owner.name f.row.name (λ e. h (entry.owner ∙ ap (λ (z : Bytes). index_of z (form_in bs)) e ∙ sym (defined bs w k i f).index))

      unknown_is : unknown_attribute k a (store_in bs) ≡ not (same o.owner.name f.row.name)
      unknown_is = ap₂ is_other at f.found

      module _ (e : o.owner.name ≡ f.row.name) where
        -- ---- its row
        row_here : (rows : List Row)
            → flat.serial_of_index a (map (row_written (form_in bs) f.row.name) (keep (of_sort (form_in bs) 2) rows))
            ≡ slice_get (map row_serial (keep (attribute_named o.attribute.name) rows)) 0
        unfolding keep
        row_here [] = refl
        row_here (r ∷ rows) = by r.sort refl (same o.attribute.name r.name) refl (row_here rows)
          where
            named : r.sort ≡ attribute → eqb (row_written (form_in bs) f.row.name r).index a ≡ same o.attribute.name r.name
            named q =
                ap (λ (z : ℕ). eqb z a) (index_written (form_in bs) f.row.name r q ∙ ap (λ (z : Bytes). attribute_index z r.name (form_in bs)) (sym e))
                ∙ name_index a (form_in bs) o w.good.form.names apart at r.name

            Flat : List Row → Option ℕ
            Flat l = flat.serial_of_index a (map (row_written (form_in bs) f.row.name) l)

            Named : List Row → Option ℕ
            Named l = slice_get (map row_serial l) 0

            past : of_sort (form_in bs) 2 r ≡ false → attribute_named o.attribute.name r ≡ false → Flat (keep (of_sort (form_in bs) 2) rows) ≡ Named (keep (attribute_named o.attribute.name) rows)
                → Flat (keep (of_sort (form_in bs) 2) (r ∷ rows)) ≡ Named (keep (attribute_named o.attribute.name) (r ∷ rows))
            past x y l = ap Flat (keep_no (of_sort (form_in bs) 2) r rows x) ∙ l ∙ sym (ap Named (keep_no (attribute_named o.attribute.name) r rows y))

            by : (t : RowSort) → r.sort ≡ t → (c : Bool) → same o.attribute.name r.name ≡ c → Flat (keep (of_sort (form_in bs) 2) rows) ≡ Named (keep (attribute_named o.attribute.name) rows)
                → Flat (keep (of_sort (form_in bs) 2) (r ∷ rows)) ≡ Named (keep (attribute_named o.attribute.name) (r ∷ rows))
            by element q c h l = past (ap (λ (z : RowSort). eqb (row_code z) 2) q) (ap (λ (z : RowSort). is_attribute z && same o.attribute.name r.name) q) l
            by text q c h l = past (ap (λ (z : RowSort). eqb (row_code z) 2) q) (ap (λ (z : RowSort). is_attribute z && same o.attribute.name r.name) q) l
            by attribute q true h l =
                ap Flat (keep_yes (of_sort (form_in bs) 2) r rows (ap (λ (z : RowSort). eqb (row_code z) 2) q))
                ∙ serial_this a (row_written (form_in bs) f.row.name r) (map (row_written (form_in bs) f.row.name) (keep (of_sort (form_in bs) 2) rows)) (named q ∙ h)
                ∙ sym (ap Named (keep_yes (attribute_named o.attribute.name) r rows (ap₂ (λ (x y : Bool). x && y) (ap is_attribute q) h)))
            by attribute q false h l =
                ap Flat (keep_yes (of_sort (form_in bs) 2) r rows (ap (λ (z : RowSort). eqb (row_code z) 2) q))
                ∙ serial_next a (row_written (form_in bs) f.row.name r) (map (row_written (form_in bs) f.row.name) (keep (of_sort (form_in bs) 2) rows)) (named q ∙ h)
                ∙ l
                ∙ sym (ap Named (keep_no (attribute_named o.attribute.name) r rows (ap₂ (λ (x y : Bool). x && y) (ap is_attribute q) h)))

        rows_are : children_of (attribute_named o.attribute.name) k (rows_of (store_in bs)) ≡ map row_serial (keep (attribute_named o.attribute.name) (heads f.below))
        rows_are =
            ap (λ (z : ℕ). children_of (attribute_named o.attribute.name) z (rows_of (store_in bs))) (sym f.serial)
            ∙ children_are (store_in bs).next (docs_in bs) w.good.serials (attribute_named o.attribute.name) f.row f.below f.stands

        row_serial_lem : flat.serial_of_index a (children_at bs 2 i) ≡ slice_get (children_of (attribute_named o.attribute.name) k (rows_of (store_in bs))) 0
        row_serial_lem = ap (flat.serial_of_index a) (children_at_lem bs w k i f 2) ∙ row_here (heads f.below) ∙ sym (ap (λ (l : List ℕ). slice_get l 0) rows_are)

        pub serial_is : {r : Option ℕ} → r ≡ flat.serial_of_index a (children_at bs 2 i) → unwrap_or r 0 ≡ attribute_serial k a (store_in bs)
        serial_is q =
            ap (λ (n : Option ℕ). unwrap_or n 0) (q ∙ row_serial_lem)
            ∙ serial_or_none 0 (children_of (attribute_named o.attribute.name) k (rows_of (store_in bs)))
            ∙ sym (ap (λ (z : maybe.Option Owned). elim z as (λ y. ℕ) [
              | none ↦ 0
              | some o ↦ serial_at 0 (children_of (attribute_named o.attribute.name) k (rows_of (store_in bs)))
            ])
            at)

        absent_is : {r : Option ℕ} → r ≡ flat.serial_of_index a (children_at bs 2 i) → is_absent k (rows_of (store_in bs)) (attribute_at a (form_in bs)) ≡ option.is_none r
        absent_is {r} q =
            ap (is_absent k (rows_of (store_in bs))) at ∙ no_first (children_of (attribute_named o.attribute.name) k (rows_of (store_in bs)))
            ∙ sym (ap (λ (n : Option ℕ). option.is_none n) (q ∙ row_serial_lem))

  pub record Known (k : ℕ) : Type 0 where
    pub owned : Owned
    pub at : attribute_at a (form_in bs) ≡ some owned
    pub row : Row
    pub below : Forest Row
    pub stands : Standing (docs_in bs) row below
    pub sort : row.sort ≡ element
    pub serial : row.serial ≡ k
    pub found : find_row (element_with k) (rows_of (store_in bs)) ≡ some row
    pub mine : owned.owner.name ≡ row.name

  -- ---- 6 and 7
  module _ {k : ℕ} where
    refused : {n : ℕ} → Gives n ((6 if unknown_attribute k a (store_in bs)) ∷ (7 if no_element k (store_in bs)) ∷ []) → AttributeRefused k a (store_in bs) n
    refused x = record { is = x.is }

    pub refused_past : attribute_count bs ≤ a → AttributeRefused k a (store_in bs) 6
    refused_past l = refused (gives_hit (ap (λ (z : maybe.Option Owned). is_other z (find_row (element_with k) (rows_of (store_in bs)))) (unowned bs w a l)))

    pub refused_none : a < attribute_count bs → NoElement bs k → AttributeRefused k a (store_in bs) 7
    refused_none l f = let (o, at) = owned bs w a l in refused (gives_next (ap₂ is_other at f.found) (gives_hit f.there))

    pub refused_other : {i : ℕ} → a < attribute_count bs → Element bs k i → ((attribute_in (width_of bs) (attributes_in bs) a).owner ≡ (row_in bs i).row.index → ⊥) → AttributeRefused k a (store_in bs) 6
    refused_other l f h = let (o, at) = owned bs w a l in refused (gives_hit (unknown_is o at f ∙ ap not (not_mine o at f h)))

    pub refused_not : {i : ℕ} → a < attribute_count bs → Element bs k i → (attribute_in (width_of bs) (attributes_in bs) a).owner ≡ (row_in bs i).row.index → AttributeRefused k a (store_in bs) 0
    refused_not l f h = let (o, at) = owned bs w a l in
        refused (gives_next (unknown_is o at f ∙ ap not (bytes.same← o.owner.name f.row.name (mine o at f h))) (gives_next f.there gives_none))

    pub as_number : {m n : ℕ} → m ≡ n → AttributeRefused k a (store_in bs) n → AttributeRefused k a (store_in bs) m
    as_number e x = record { is = e ∙ x.is }

    -- ---- none of them holds
    module _ {n : ℕ} (x : AttributeRefused k a (store_in bs) n) (h : n ≡ 0) where
      pub both : (unknown_attribute k a (store_in bs) ≡ false) × (no_element k (store_in bs) ≡ false)
      both = unmet (unknown_attribute k a (store_in bs)) (no_element k (store_in bs)) n x.is h

      pub known_of : Known k
      known_of = by (attribute_at a (form_in bs)) refl (find_row (element_with k) (rows_of (store_in bs))) refl both.0 both.1
        where
          by : (z : maybe.Option Owned) → attribute_at a (form_in bs) ≡ z → (r : maybe.Option Row) → find_row (element_with k) (rows_of (store_in bs)) ≡ r → is_other z r ≡ false
              → no_element k (store_in bs) ≡ false → Known k
          by none p r q e g = absurd (false≢true (sym e))
          by (some o) p none q e g = absurd (false≢true (sym g ∙ ap not (any_found (element_with k) (rows_of (store_in bs)) ∙ ap is_there q)))
          by (some o) p (some r) q e g =
              let (b, i, s, t) = found_element k (docs_in bs) r q in
              record {
                owned = o;
                at = p;
                row = r;
                below = b;
                stands = i;
                sort = is_element_lem r.sort s;
                serial = t;
                found = q;
                mine = same_eq o.owner.name r.name (not-false (same o.owner.name r.name) e);
              }

  -- ---- conforming after
  module _ {k : ℕ} (y : Known k) where
    shape : (d : Definition) × (lookup y.row.name (form_in bs) ≡ some d) × ElementRows (store_in bs).version d (heads y.below)
    shape = element_conforms (store_in bs).version (form_in bs) y.row (heads y.below) y.sort
        (standing_every (λ r below. RowConforms (store_in bs).version (form_in bs) r below) (docs_in bs) w.good.docs.rows y.row y.below y.stands)

    own : y.owned.owner ≡ shape.0
    own = some-injective _ _ (sym (owner_found a (form_in bs) w.good.form.names y.owned y.at) ∙ ap (λ (z : Bytes). lookup z (form_in bs)) y.mine ∙ shape.1)

    pub drop_is : conforming (store_in bs).version (form_in bs) (after (destroy_attribute_row k a) (store_in bs)).docs ≡ not ((by_index bs).needed a)
    drop_is =
        ap (λ (z : ℕ). conforming (store_in bs).version (form_in bs) (after (destroy_attribute_row z a) (store_in bs)).docs) (sym y.serial)
        ∙ drop_conforms (store_in bs) w.good y.row y.below y.stands y.sort shape.0 shape.1 shape.2 a y.owned y.at own
        ∙ ap not (sym (entry y.owned y.at).needed)

    pub set_is : (v : Bytes) → conforming (store_in bs).version (form_in bs) (after (set_attribute k a v) (store_in bs)).docs ≡ (by_index bs).allows a v
    set_is v =
        ap (λ (z : ℕ). conforming (store_in bs).version (form_in bs) (after (set_attribute z a v) (store_in bs)).docs) (sym y.serial)
        ∙ set_conforms (store_in bs) w.good y.row y.below y.stands y.sort shape.0 shape.1 shape.2 a y.owned y.at own v
        ∙ sym ((entry y.owned y.at).allowed v)

    pub same_row_lem : {i : ℕ} (f : Element bs k i) → y.owned.owner.name ≡ f.row.name
    same_row_lem f = y.mine ∙ ap name_of (some-injective _ _ (sym y.found ∙ f.found))

    pub owner_is : {i : ℕ} (f : Element bs k i) → (attribute_in (width_of bs) (attributes_in bs) a).owner ≡ (row_in bs i).row.index
    owner_is {i} f = (entry y.owned y.at).owner ∙ ap (λ (z : Bytes). index_of z (form_in bs)) (same_row_lem f) ∙ sym (defined bs w k i f).index

    pub inside : a < attribute_count bs
    inside = (entry y.owned y.at).inside

  -- ---- 14
  module _ (k : ℕ) (v : Bytes) where
    pub set_3 : {m : ℕ} {c : Bool} → WidthIn bs m → c ≡ is_value m v → not c ≡ true → Gives 3 (conditions (set_attribute k a v) (store_in bs))
    unfolding conditions
    set_3 u e h = gives_hit (bad_text_lem bs v u e h)

    module _ {m : ℕ} {c : Bool} (u : WidthIn bs m) (e : c ≡ is_value m v) (h : not c ≡ false) {n : ℕ} (x : AttributeRefused k a (store_in bs) n) where
      pub set_early : (n ≡ 0 → ⊥) → Gives n (conditions (set_attribute k a v) (store_in bs))
      unfolding conditions
      set_early f = gives_next (fine_text bs v u e h) (held (unknown_attribute k a (store_in bs)) (no_element k (store_in bs)) n _ x.is f)

      module _ (z : n ≡ 0) {r : Bool} (q : r ≡ (by_index bs).allows a v) where
        pub set_last : Gives (first (15 if not r ∷ [])) (conditions (set_attribute k a v) (store_in bs))
        unfolding conditions
        set_last =
            gives_next (fine_text bs v u e h) (gives_next (both x z).0 (gives_next (both x z).1
            (record { is = ap (λ (b : Bool). first (15 if not b ∷ [])) (q ∙ sym (set_is (known_of x z) v)) })))

  -- ---- 15
  module _ (k : ℕ) {n : ℕ} (x : AttributeRefused k a (store_in bs) n) where
    pub drop_early : (n ≡ 0 → ⊥) → Gives n (conditions (destroy_attribute_row k a) (store_in bs))
    unfolding conditions
    drop_early f = held_or (unknown_attribute k a (store_in bs)) (no_element k (store_in bs)) (is_absent k (rows_of (store_in bs)) (attribute_at a (form_in bs))) n _ x.is f

    module _ (z : n ≡ 0) {i : ℕ} (f : Element bs k i) {r : Option ℕ} (q : r ≡ flat.serial_of_index a (children_at bs 2 i)) where
      missing : is_absent k (rows_of (store_in bs)) (attribute_at a (form_in bs)) ≡ option.is_none r
      missing = absent_is (known_of x z).owned (known_of x z).at f (same_row_lem (known_of x z) f) q

      pub drop_7 : r ≡ None → Gives 7 (conditions (destroy_attribute_row k a) (store_in bs))
      unfolding conditions
      drop_7 e = gives_next (both x z).0 (gives_hit (ap₂ (λ (u v : Bool). u || v) (both x z).1 (missing ∙ ap (λ (n : Option ℕ). option.is_none n) e)))

      module _ {m : ℕ} (e : r ≡ Some m) {j : ℕ} (d : j ≡ (row_in bs i).row.index) {c : Bool}
          (need : c ≡ (eqb (attribute_in (width_of bs) (attributes_in bs) a).owner j && (by_index bs).needed a)) where
        there : (no_element k (store_in bs) || is_absent k (rows_of (store_in bs)) (attribute_at a (form_in bs))) ≡ false
        there = ap₂ (λ (u v : Bool). u || v) (both x z).1 (missing ∙ ap (λ (n : Option ℕ). option.is_none n) e)

        needed : c ≡ (by_index bs).needed a
        needed = need ∙ ap (λ (u : Bool). u && (by_index bs).needed a) (eq-eqb (attribute_in (width_of bs) (attributes_in bs) a).owner j (owner_is (known_of x z) f ∙ sym d))

        after_is : not (conforming (store_in bs).version (form_in bs) (after (destroy_attribute_row k a) (store_in bs)).docs) ≡ c
        after_is = ap not (drop_is (known_of x z)) ∙ not-not ((by_index bs).needed a) ∙ sym needed

        pub drop_last : Gives (first (15 if c ∷ [])) (conditions (destroy_attribute_row k a) (store_in bs))
        unfolding conditions
        drop_last = gives_next (both x z).0 (gives_next there (record { is = ap (λ (v : Bool). first (15 if v ∷ [])) (sym after_is) }))
