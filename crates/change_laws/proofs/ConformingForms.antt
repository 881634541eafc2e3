-- Conforming after the changes 1, 2, 6, 7, 9 and 10 of the form, from what their conditions say.
use Prim.Native.Nat.{ℕ}
use mathlib.Core.Path.{◌≡◌, refl, sym, ap, ap₂, ◌∙◌}
use mathlib.Core.Logic.{◌⊎◌, inl, inr, ⊎_elim}
use mathlib.Core.Bool.{Bool, true, false, ◌&&◌, not, false≢true, and-false}
use mathlib.Core.Option.{Option, some}
use mathlib.Core.List.Memᴰ
use mathlib.Core.List.{List, [], ◌∷◌, ◌++◌, map, Memᴰ}
use Rattle.rules.specs.declared.GroupKind.TheVariants.{Sequence}
use Rattle.rules.specs.Bytes.{Bytes, bytes, all, any}
use Rattle.rules.specs.Model.{names, member}
use Rattle.rules.specs.Store.{Content, empty, pcdata, complex, Definition, Form, RowSort, element, attribute, text, Row, Forest, bare, tree, Store, model_of, members, heads}
use Rattle.rules.specs.WellFormed.{lookup, is_there, known, attribute_name, well_formed}
use Rattle.rules.specs.Conforming.{name_of, ContentRows, ElementRows, RowConforms, is_element, is_attribute, every_row, must_be_present, fits_definition, fits_row, conforming}
use Rattle.rules.specs.Filling.{attribute_row}
use Rattle.rules.specs.Lines.{element_named, attribute_named}
use Rattle.rules.specs.Decode.{sort_of}
use Rattle.rules.specs.Change.{create_definition, destroy_definition, add_attribute, destroy_attribute, definition_at, name_at_index}
use Rattle.rules.specs.Change.{Owned, attribute_at, with_attributes, lacking, new_attribute, form_after, Plan, keeping, taking, making}
use Rattle.rules.specs.Change.{drop_plan, plan, changed, docs_after}
use Rattle.rules.specs.Passing.{GoodSerials}
use Rattle.rules.proofs.Words.{and_both, and_split}
use Rattle.rules.proofs.Letters.{letters}
use Rattle.rules.proofs.TestLaws.{any_test, member_test}
use Rattle.rules.proofs.WellFormedLaws.{lookup_member, definition_good}
use Rattle.rules.proofs.SerialLaws.{every_row_lem}
use Rattle.rules.proofs.ConformingLaws.{row_is}
use Rattle.change_laws.proofs.RowEdits.{keep, plant_rows, revalued, children_after}
use Rattle.change_laws.proofs.Rowwise.{Standing}
use Rattle.change_laws.proofs.StandingLaws.{standing_every, standing_parent}
use Rattle.change_laws.proofs.Untouched.{keep_alike, map_same, children_left, children_cut, same_row_lem, same_child, children_kept}
use Rattle.change_laws.proofs.DefinitionEdits.{added_absent, added_present, definition_lacking}
use Rattle.change_laws.proofs.ConformingAfter.{conforming_elements, Replaced, Within, conforming_replaced}
use Rattle.change_laws.proofs.InstanceRows.{keep_in}

-- ---- an element row's name is a root's or a member's
pub content_named : (c : Content) (rows : List Row) → ContentRows c rows → (r : Row) → Memᴰ r rows → r.sort ≡ element → Memᴰ r.name (names (model_of c))
content_named empty rows e r m s = absurd (Memᴰ.not-nil (rw e at m))
content_named pcdata rows (t, e, q) r m s =
    let z : r ≡ t = Memᴰ.eq_of_singleton (rw e at m) in
    let y : is_element element ≡ is_element text = ap is_element (sym s ∙ ap (λ (k : Row). k.sort) z ∙ q) in
    absurd (false≢true (sym y))
content_named (complex ms) rows (q, l) r m s = (letters Sequence ms).inside (map name_of rows) l r.name (Memᴰ.map name_of m)

pub element_named_lem : {version : ℕ} (d : Definition) (rows : List Row) → ElementRows version d rows → (r : Row) → Memᴰ r rows → r.sort ≡ element → Memᴰ r.name (names (members d))
element_named_lem d rows x r m s =
    ⊎_elim (λ i. let y : is_element element ≡ is_element attribute = ap is_element (sym s ∙ x.attributes.sorts r i) in absurd (false≢true (sym y)))
    (λ i. content_named d.content x.back x.content r i s)
    (Memᴰ.append_cases x.front (rw (← x.split) at m))

module _ (version w : ℕ) (form : Form) (ok : well_formed w form ≡ true) (docs : Forest Row) (conforms : conforming version form docs ≡ true) where
  pub standing_fits : (r : Row) (b : Forest Row) → Standing docs r b → fits_row version form r (heads b) ≡ true
  unfolding conforming
  standing_fits =
      standing_every (λ r rows. fits_row version form r rows ≡ true) docs
      ((every_row_lem (λ r below. fits_row version form r below) docs).0
      (and_split (all (λ (r : Row). is_element r.sort) (heads docs)) (every_row (λ r below. fits_row version form r below) docs) conforms).1)

  standing_conforms : (r : Row) (b : Forest Row) → Standing docs r b → RowConforms version form r (heads b)
  standing_conforms r b i = (row_is version form (λ n d e. (definition_good w form ok n d e).once) (λ n d e. (definition_good w form ok n d e).attribute_names) r (heads b)).0 (standing_fits r b i)

  -- a row right below u is a member of u's definition
  child_member : (u : Row) (c : Forest Row) → Standing docs u c → (r : Row) → Memᴰ r (heads c) → r.sort ≡ element → (d : Definition) × Memᴰ d form × Memᴰ r.name (names (members d))
  child_member u c i r m s = by u.sort refl (standing_conforms u c i)
    where
      by : (k : RowSort) → u.sort ≡ k → RowConforms version form u (heads c) → (d : Definition) × Memᴰ d form × Memᴰ r.name (names (members d))
      by element q x = let (d, e, y) = rw q at x in (d, (lookup_member u.name form d e).0, element_named_lem d (heads c) y r m s)
      by attribute q x = let e : heads c ≡ [] = rw q at x in absurd (Memᴰ.not-nil (rw e at m))
      by text q x = let e : heads c ≡ [] = rw q at x in absurd (Memᴰ.not-nil (rw e at m))

  -- a name of no model and no root is no element's
  pub nowhere : (n : Bytes) → any (λ (d : Definition). member bytes n (names (members d))) form ≡ false → any (element_named n) (heads docs) ≡ false
      → (r : Row) (b : Forest Row) → Standing docs r b → r.sort ≡ element → n ≡ r.name → ⊥
  nowhere n models roots r b i s q = by (standing_parent docs r b i)
    where
      by : Memᴰ r (heads docs) ⊎ ((u : Row) × (c : Forest Row) × Standing docs u c × Memᴰ r (heads c)) → ⊥
      by (inl m) = false≢true (sym roots ∙ (any_test (element_named n) (heads docs)).1 (r, m, and_both (ap is_element s) (bytes.same← n r.name q)))
      by (inr (u, c, j, m)) =
          let (d, k, h) = child_member u c j r m s in
          false≢true (sym models ∙ (any_test (λ (d : Definition). member bytes n (names (members d))) form).1 (d, k, (member_test bytes n (names (members d))).1 (Memᴰ.cast q h)))

-- ---- rows unchanged
module _ (version : ℕ) (form form' : Form) (next : ℕ) (docs : Forest Row) (serials : GoodSerials next docs) where
  pub conforming_kept : ((r : Row) (b : Forest Row) (d : Definition) → Standing docs r b → r.sort ≡ element → lookup r.name form ≡ some d → lookup r.name form' ≡ some d)
      → conforming version form docs ≡ true → conforming version form' (changed keeping docs) ≡ true
  conforming_kept same =
      conforming_elements version form form' next docs serials keeping refl (λ e. absurd (false≢true e)) refl (λ r b i q. refl)
      (λ r b d i s q h. ap₂ (λ (o : Option Definition) (l : List Row). fits_definition version o l) (same r b d i s q) (children_kept next docs serials keeping refl r b i (λ t m. refl) refl) ∙ h)

module _ (w : ℕ) (s : Store) (ok : well_formed w s.form ≡ true) (serials : GoodSerials s.next s.docs) (conforms : conforming s.version s.form s.docs ≡ true) where
  -- 1: names that were known are found as before
  pub conforming_1 : (n : Bytes) (k : ℕ) → ((m : Bytes) → known s.form m ≡ true → lookup m (form_after (create_definition n k) s.form) ≡ lookup m s.form)
      → conforming s.version (form_after (create_definition n k) s.form) (docs_after (create_definition n k) s) ≡ true
  unfolding plan
  conforming_1 n k old =
      conforming_kept s.version s.form (form_after (create_definition n k) s.form) s.next s.docs serials (λ r b d i q e. old r.name (ap is_there e) ∙ e) conforms

  -- 2: no element has the name of the removed definition
  pub conforming_2 : (i : ℕ) → any (λ (d : Definition). member bytes (name_at_index i s.form) (names (members d))) s.form ≡ false
      → any (element_named (name_at_index i s.form)) (heads s.docs) ≡ false
      → ((m : Bytes) → (m ≡ name_at_index i s.form → ⊥) → lookup m (form_after (destroy_definition i) s.form) ≡ lookup m s.form)
      → conforming s.version (form_after (destroy_definition i) s.form) (docs_after (destroy_definition i) s) ≡ true
  unfolding plan
  conforming_2 i models roots others =
      conforming_kept s.version s.form (form_after (destroy_definition i) s.form) s.next s.docs serials
      (λ r b d j q e. others r.name (λ z. nowhere s.version w s.form ok s.docs conforms (name_at_index i s.form) models roots r b j q (sym z)) ∙ e) conforms

  -- 9: each instance gets a row of a REQUIRED attribute
  module _ (o : ℕ) (n : Bytes) (k : ℕ) (v : Bytes) where
    abbrev owner : Definition
    owner = definition_at o s.form

    abbrev more : Definition
    more = with_attributes (λ table. table ++ new_attribute n k v ∷ []) owner

    abbrev plan₉ : Plan
    plan₉ = making (λ r. must_be_present s.version (sort_of k) && element_named (name_at_index o s.form) r) (λ u r. not (is_attribute r.sort)) (tree (attribute_row (new_attribute n k v)) bare bare)

    within₉ : Within (name_at_index o s.form) plan₉
    within₉ = record { takes = λ r t e. refl; fills = λ r e. rw e (and-false (must_be_present s.version (sort_of k))); set = refl }

    step₉ : member bytes n (map attribute_name owner.attributes) ≡ false → (r : Row) (b : Forest Row) → Standing s.docs r b → element_named owner.name r ≡ true
        → fits_definition s.version (some owner) (heads b) ≡ true → fits_definition s.version (some more) (children_after plan₉ r (heads b)) ≡ true
    step₉ fresh r b i e h = by (must_be_present s.version (sort_of k)) refl
      where
        new : Memᴰ n (map attribute_name owner.attributes) → ⊥
        new m = false≢true (sym fresh ∙ (member_test bytes n (map attribute_name owner.attributes)).1 m)

        by : (c : Bool) → must_be_present s.version (sort_of k) ≡ c → fits_definition s.version (some more) (children_after plan₉ r (heads b)) ≡ true
        by false q =
            ap (fits_definition s.version (some more)) (children_kept s.next s.docs serials plan₉ refl r b i (λ t m. refl) (rw q))
            ∙ added_absent s.version (new_attribute n k v) owner new (heads b) h q
        by true q =
            ap (fits_definition s.version (some more)) (children_left plan₉ r (heads b) (λ t m. refl) ∙ stays)
            ∙ added_present s.version (new_attribute n k v) owner new (heads b) h plan₉ r (λ t. refl) refl
          where
            due : plan₉.fills r ≡ true
            due = rw (q, e)

            stays : plant_rows plan₉ (revalued plan₉ r) (plan₉.fills (revalued plan₉ r)) (map (revalued plan₉) (heads b)) ≡ plant_rows plan₉ r true (heads b)
            stays =
                ap (λ (u : Row). plant_rows plan₉ u (plan₉.fills u) (map (revalued plan₉) (heads b))) (same_row_lem s.next s.docs serials plan₉ refl r b i)
                ∙ ap₂ (λ (c : Bool) (l : List Row). plant_rows plan₉ r c l) due (map_same (revalued plan₉) (heads b) (same_child s.next s.docs serials plan₉ refl r b i))

    pub conforming_9 : member bytes n (map attribute_name (definition_at o s.form).attributes) ≡ false
        → Replaced s.form (form_after (add_attribute o n k v) s.form) (definition_at o s.form) (with_attributes (λ table. table ++ new_attribute n k v ∷ []) (definition_at o s.form))
        → conforming s.version (form_after (add_attribute o n k v) s.form) (docs_after (add_attribute o n k v) s) ≡ true
    unfolding plan fits_row
    conforming_9 fresh replaced =
        conforming_replaced s.version s.form (form_after (add_attribute o n k v) s.form) owner more replaced s.next s.docs serials plan₉ within₉ refl (step₉ fresh) conforms

  -- 10: the rows of an attribute go with its entry
  module _ (o : Owned) where
    abbrev plan₁₀ : Plan
    plan₁₀ = taking (λ u r. element_named o.owner.name u && attribute_named o.attribute.name r)

    step₁₀ : lookup o.owner.name s.form ≡ some o.owner → (r : Row) (b : Forest Row) → Standing s.docs r b → element_named o.owner.name r ≡ true
        → fits_definition s.version (some o.owner) (heads b) ≡ true
        → fits_definition s.version (some (with_attributes (lacking o.attribute.name) o.owner)) (children_after plan₁₀ r (heads b)) ≡ true
    step₁₀ found r b i e h =
        ap (fits_definition s.version (some (with_attributes (lacking o.attribute.name) o.owner))) left
        ∙ definition_lacking s.version o.attribute.name o.owner (definition_good w s.form ok o.owner.name o.owner found).attribute_names (heads b) h
      where
        alike : (t : Row) → not (plan₁₀.takes r t) ≡ not (attribute_named o.attribute.name t)
        alike t = ap (λ (c : Bool). not (c && attribute_named o.attribute.name t)) e

        left : children_after plan₁₀ r (heads b) ≡ keep (λ t. not (attribute_named o.attribute.name t)) (heads b)
        left =
            children_cut plan₁₀ r (heads b) refl
            ∙ map_same (revalued plan₁₀) (keep (λ t. not (plan₁₀.takes r t)) (heads b))
            (λ t m. same_child s.next s.docs serials plan₁₀ refl r b i t (keep_in (λ t. not (plan₁₀.takes r t)) (heads b) t m))
            ∙ keep_alike (λ t. not (plan₁₀.takes r t)) (λ t. not (attribute_named o.attribute.name t)) alike (heads b)

    pub conforming_10 : (a : ℕ) → attribute_at a s.form ≡ some o
        → Replaced s.form (form_after (destroy_attribute a) s.form) o.owner (with_attributes (lacking o.attribute.name) o.owner)
        → conforming s.version (form_after (destroy_attribute a) s.form) (docs_after (destroy_attribute a) s) ≡ true
    unfolding plan
    conforming_10 a at replaced =
        ap (λ (x : Option Owned). conforming s.version (form_after (destroy_attribute a) s.form) (changed (drop_plan (λ o u. element_named o.owner.name u) x) s.docs)) at
        ∙ conforming_replaced s.version s.form (form_after (destroy_attribute a) s.form) o.owner (with_attributes (lacking o.attribute.name) o.owner) replaced s.next
        s.docs serials plan₁₀
        (record { takes = λ r t e. rw e; fills = λ r e. refl; set = refl }) refl (step₁₀ replaced.was) conforms
