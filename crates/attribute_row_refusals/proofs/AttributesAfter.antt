-- 14 and 15: whether the documents conform after an attribute is set or its row destroyed, as a test of the attribute.
use Prim.Native.Nat.{ℕ}
use mathlib.Core.Path.{◌≡◌, refl, sym, ap, ap₂, ◌∙◌, subst}
use mathlib.Core.Logic.{◌⊎◌, inl, inr}
use mathlib.Core.Bool.{Bool, true, false, ◌&&◌, not, false≢true}
use mathlib.Core.Option.{Option, some}
use mathlib.Core.List.Memᴰ
use mathlib.Core.List.{List, [], ◌∷◌, ◌++◌, map, Memᴰ}
use Rattle.rules.specs.Bytes.{Bytes, bytes, numbers, all}
use Rattle.rules.specs.Model.{Distinct, member}
use Rattle.rules.specs.Store.{Definition, RowSort, element, attribute, text, Row, Forest, bare, tree, Store, heads}
use Rattle.rules.specs.Layout.{value_width}
use Rattle.rules.specs.WellFormed.{attribute_name, lookup}
use Rattle.rules.specs.Conforming.{ElementRows, RowConforms, is_element, is_attribute, must_be_present, allows, strip, fits, fits_stripped, fits_definition, fits_row, conforming}
use Rattle.rules.specs.Passing.{Good}
use Rattle.rules.specs.Lines.{lines, element_with, attribute_named}
use Rattle.rules.specs.Change.{set_attribute, destroy_attribute_row, Owned, attribute_at, names_before, Plan, making, taking, setting, set_at, set_plan, drop_plan, plan, changed, after}
use Rattle.rules.proofs.Words.{and_both, and_off}
use Rattle.rules.proofs.Apart.{differs}
use Rattle.rules.proofs.WellFormedLaws.{definition_good}
use Rattle.rules.proofs.ConformingLaws.{strip_is, content_is, content_head}
use Rattle.change_laws.proofs.RowEdits.{row_serial, keep, plant_rows, revalued, children_after}
use Rattle.change_laws.proofs.Rowwise.{Standing}
use Rattle.change_laws.proofs.FormLaws.{attribute_owned}
use Rattle.change_laws.proofs.StandingLaws.{standing_every, children_are, children_once}
use Rattle.change_laws.proofs.Untouched.{keep_alike, map_same, children_left, children_cut, children_kept, same_row_lem, same_child, revalued_other}
use Rattle.change_laws.proofs.Numbered.{mapped_row}
use Rattle.change_laws.proofs.ConformingAfter.{fits_element}
use Rattle.change_laws.proofs.AttributeEdits.{no_attribute, content_plain}
use Rattle.document_refusals.proofs.ConformingTests.{conforming_local}
use Rattle.document_refusals.proofs.ParentLaws.{one_parent}
use Rattle.document_refusals.proofs.ElementsAfter.{ok, fine, unnumbered, apart, row_fits_lem}
use Rattle.attribute_row_refusals.proofs.AttributeTests.{given, stays, strip_without, put, strip_put, strip_set}
use Rattle.change_laws.proofs.InstanceRows.{keep_all, plant_not, keep_in}

keep_of : (test : Row → Bool) (rows : List Row) (y : Row) → Memᴰ y rows → test y ≡ true → Memᴰ y (keep test rows)
unfolding keep
keep_of test [] y m e = absurd (Memᴰ.not-nil m)
keep_of test (r ∷ rows) y m e = by (test r) refl (Memᴰ.cases_cons m) (λ j. keep_of test rows y j e)
  where
    by : (c : Bool) → test r ≡ c → (y ≡ r) ⊎ Memᴰ y rows → (Memᴰ y rows → Memᴰ y (keep test rows)) → Memᴰ y (keep test (r ∷ rows))
    by true q (inl h) f = rw (q, keep) (Memᴰ.head h)
    by true q (inr j) f = rw (q, keep) (Memᴰ.tail (f j))
    by false q (inl h) f = absurd (false≢true (sym q ∙ ap test (sym h) ∙ e))
    by false q (inr j) f = rw (q, keep) (f j)

-- rows planted before the first that is later
planted_put : (p : Plan) (u x : Row) (ns : List Bytes) (n : Bytes) (is : x.sort ≡ attribute) (named : x.name ≡ n) → heads p.filling ≡ x ∷ []
    → ((r : Row) → p.later u r ≡ not (is_attribute r.sort && member bytes r.name ns))
    → (rows : List Row) → plant_rows p u true rows ≡ put n x is named ns rows
unfolding plant_rows
planted_put p u x ns n is named one later [] = one
planted_put p u x ns n is named one later (r ∷ rows) = by (is_attribute r.sort && member bytes r.name ns) refl (planted_put p u x ns n is named one later rows)
  where
    by : (c : Bool) → (is_attribute r.sort && member bytes r.name ns) ≡ c → plant_rows p u true rows ≡ put n x is named ns rows → plant_rows p u true (r ∷ rows) ≡ put n x is named ns (r ∷ rows)
    by true e h = rw (later r ∙ ap not e, plant_rows) (ap (λ (z : List Row). r ∷ z) h ∙ rw (e, put))
    by false e h = rw (later r ∙ ap not e, plant_rows) (ap₂ (λ (a b : List Row). a ++ (r ∷ b)) one (plant_not p u rows) ∙ rw (e, put))

module _ (s : Store) (g : Good s) (r : Row) (b : Forest Row) (i : Standing s.docs r b) (is : r.sort ≡ element) (d : Definition)
    (found : lookup r.name s.form ≡ some d) (x : ElementRows s.version d (heads b))
    (a : ℕ) (o : Owned) (at : attribute_at a s.form ≡ some o) (own : o.owner ≡ d) where
  abbrev n : Bytes
  n = o.attribute.name

  among : Memᴰ o.attribute d.attributes
  among = subst (λ (z : Definition). Memᴰ o.attribute z.attributes) own (attribute_owned a s.form o at).1

  names : Distinct (map attribute_name d.attributes)
  names = apart s g r b i is d found x

  stripped : strip s.version d.attributes (heads b) ≡ some x.back
  stripped = (strip_is s.version d.attributes (heads b) x.back names (content_head d.content x.back x.content)).1
      (record { front = x.front; split = x.split; attributes = x.attributes })

  content : fits d.content x.back ≡ true
  content = (content_is d.content (definition_good (value_width s.version) s.form (ok s g) r.name d found).once x.back).1 x.content

  plain : all no_attribute x.back ≡ true
  plain = content_plain d.content x.back content

  by_test : (rows : List Row) (c : Bool) → strip s.version d.attributes rows ≡ given c x.back → fits_definition s.version (some d) rows ≡ c
  by_test rows true e = ap (fits_stripped d.content) e ∙ content
  by_test rows false e = ap (fits_stripped d.content) e

  -- ---- 15
  q : Plan
  q = taking (λ u y. element_with r.serial u && attribute_named n y)

  here : element_with r.serial r ≡ true
  here = and_both (ap is_element is) (numbers.same← r.serial r.serial refl)

  elsewhere : (u : Row) → (u.serial ≡ r.serial → ⊥) → element_with r.serial u ≡ false
  elsewhere u f = and_off (is_element u.sort) _ (differs numbers u.serial r.serial f)

  -- a row with rows below it is no attribute's
  holds : (u : Row) (c : Forest Row) → Standing s.docs u c → (u ≡ r) ⊎ Standing c r b → attribute_named n u ≡ false
  holds u c j z = by u.sort refl (standing_every (λ r below. RowConforms s.version s.form r below) s.docs g.docs.rows u c j) z
    where
      empty : (f : Forest Row) → heads f ≡ [] → Standing f r b → ⊥
      empty bare e k = k
      empty (tree y e f) h k = Memᴰ.not-nil (subst (λ (z : List Row). Memᴰ y z) h (Memᴰ.head refl))

      by : (t : RowSort) → u.sort ≡ t
          → elim t as (λ z. Type 0) [
            | element ↦ (d : Definition) × (lookup u.name s.form ≡ some d) × ElementRows s.version d (heads c)
            | attribute ↦ heads c ≡ []
            | text ↦ heads c ≡ []
          ]
          → (u ≡ r) ⊎ Standing c r b → attribute_named n u ≡ false
      by element e y z = rw e
      by attribute e y (inl h) = let w : false ≡ true = ap is_element (sym e ∙ ap (λ (z : Row). z.sort) h ∙ is) in absurd (false≢true w)
      by attribute e y (inr k) = absurd (empty c y k)
      by text e y z = rw e

  pub drop_conforms : conforming s.version s.form (after (destroy_attribute_row r.serial a) s).docs ≡ not (must_be_present s.version o.attribute.sort)
  unfolding q plan
  drop_conforms =
      unnumbered s g (destroy_attribute_row r.serial a)
      ∙ ap (λ (z : Option Owned). conforming s.version s.form (changed (drop_plan (λ o u. element_with r.serial u) z) s.docs)) at
      ∙ conforming_local s.version s.form s.next s.docs g.serials (fine s g) q refl refl r b i (λ v u c j z. and_off (element_with r.serial v) _ (holds u c j z))
      (λ u c j f h. ap₂ (λ (z : Row) (rows : List Row). fits_row s.version s.form z rows) (same_row_lem s.next s.docs g.serials q refl u c j)
      (children_kept s.next s.docs g.serials q refl u c j (λ y m. ap (λ (z : Bool). z && attribute_named n y) (elsewhere u f)) refl)
      ∙ h)
      ∙ ap₂ (λ (z : Row) (rows : List Row). fits_row s.version s.form z rows) (same_row_lem s.next s.docs g.serials q refl r b i)
      (children_cut q r (heads b) refl
      ∙ ap (map (revalued q)) (keep_alike (λ y. not (element_with r.serial r && attribute_named n y)) (stays n) (λ y. ap (λ (z : Bool). not (z && attribute_named n y)) here) (heads b))
      ∙ map_same (revalued q) (keep (stays n) (heads b)) (λ z m. same_child s.next s.docs g.serials q refl r b i z (keep_in (stays n) (heads b) z m)))
      ∙ row_fits_lem s g r b i is d found x (keep (stays n) (heads b))
      ∙ by_test (keep (stays n) (heads b)) (not (must_be_present s.version o.attribute.sort))
      (strip_without n s.version o.attribute refl d.attributes (heads b) x.back names plain stripped among)

  -- ---- 14
  module _ (v : Bytes) where
    new : Row
    new = record { serial = 0; sort = attribute; name = o.attribute.name; value = v }

    ns : List Bytes
    ns = names_before o.attribute.name (map attribute_name o.owner.attributes)

    -- where no row stands
    p : Plan
    p = making (element_with r.serial)
        (λ u y. not (is_attribute y.sort && member bytes y.name (names_before o.attribute.name (map attribute_name o.owner.attributes))))
        (tree (record { serial = 0; sort = attribute; name = o.attribute.name; value = v }) bare bare)

    added : ((y : Row) → Memᴰ y (heads b) → attribute_named n y ≡ false) → conforming s.version s.form (changed p s.docs) ≡ allows o.attribute.sort o.attribute.value v
    unfolding p new ns fits_row
    added absent =
        conforming_local s.version s.form s.next s.docs g.serials (fine s g) p refl refl r b i (λ v u c j z. refl)
        (λ u c j f h. ap₂ (λ (z : Row) (rows : List Row). fits_row s.version s.form z rows) (same_row_lem s.next s.docs g.serials p refl u c j)
        (children_kept s.next s.docs g.serials p refl u c j (λ y m. refl) (elsewhere u f))
        ∙ h)
        ∙ ap₂ (λ (z : Row) (rows : List Row). fits_row s.version s.form z rows) (same_row_lem s.next s.docs g.serials p refl r b i)
        (children_left p r (heads b) (λ u m. refl)
        ∙ ap₂ (λ (z : Row) (rows : List Row). plant_rows p z (p.fills z) rows) (same_row_lem s.next s.docs g.serials p refl r b i)
        (map_same (revalued p) (heads b) (same_child s.next s.docs g.serials p refl r b i))
        ∙ ap (λ (c : Bool). plant_rows p r c (heads b)) here
        ∙ planted_put p r new ns n refl refl refl (λ y. refl) (heads b))
        ∙ row_fits_lem s g r b i is d found x (put n new refl refl ns (heads b))
        ∙ by_test (put n new refl refl ns (heads b)) (allows o.attribute.sort o.attribute.value v)
        (ap (λ (z : Definition). strip s.version d.attributes (put n new refl refl (names_before n (map attribute_name z.attributes)) (heads b))) own
        ∙ strip_put n new refl refl s.version o.attribute refl d.attributes (heads b) x.back names plain stripped among absent)

    -- where one stands
    revalued_row : (y : Row) (ys : List Row) → keep (attribute_named n) (heads b) ≡ y ∷ ys
        → conforming s.version s.form (changed (setting y.serial v) s.docs) ≡ allows o.attribute.sort o.attribute.value v
    revalued_row y ys k =
        conforming_local s.version s.form s.next s.docs g.serials (fine s g) w refl refl r b i (λ v u c j z. refl)
        (λ u c j f h. ap (fits_row s.version s.form (revalued w u)) (below u c)
        ∙ mapped_row (revalued w) (λ z. refl) (λ z. refl) s.version s.form u (heads c)
        (λ z m e. ap (λ (t : Row). t.value)
        (revalued_other w z
        (λ l. f
        (ap row_serial (one_parent s.docs g.serials.once y.serial u r c b j i (Memᴰ.cast (sym l) (Memᴰ.map row_serial m)) (Memᴰ.map row_serial there))))))
        ∙ h)
        ∙ ap (fits_row s.version s.form (revalued w r)) (below r b)
        ∙ fits_element s.version s.form (revalued w r) (map (revalued w) (heads b)) is
        ∙ ap (λ (t : Option Definition). fits_definition s.version t (map (revalued w) (heads b))) found
        ∙ by_test (map (revalued w) (heads b)) (allows o.attribute.sort o.attribute.value v)
        (strip_set n y.serial v s.version o.attribute refl d.attributes (heads b) x.back names plain stripped among (children_once s.next s.docs g.serials r b i) y ys k refl)
      where
        w : Plan
        w = setting y.serial v

        there : Memᴰ y (heads b)
        there = keep_in (attribute_named n) (heads b) y (subst (λ (z : List Row). Memᴰ y z) (sym k) (Memᴰ.head refl))

        below : (u : Row) (c : Forest Row) → children_after (setting y.serial v) u (heads c) ≡ map (revalued (setting y.serial v)) (heads c)
        below u c = children_cut (setting y.serial v) u (heads c) refl ∙ ap (map (revalued (setting y.serial v))) (keep_all (λ z. true) (heads c) (λ z m. refl))

    pub set_conforms : conforming s.version s.form (after (set_attribute r.serial a v) s).docs ≡ allows o.attribute.sort o.attribute.value v
    unfolding plan p
    set_conforms =
        unnumbered s g (set_attribute r.serial a v)
        ∙ ap (λ (z : Option Owned). conforming s.version s.form (changed (set_plan (lines 0 s.docs) r.serial v z) s.docs)) at
        ∙ ap (λ (z : List ℕ). conforming s.version s.form (changed (set_at r.serial o v z) s.docs)) (children_are s.next s.docs g.serials (attribute_named n) r b i)
        ∙ by (keep (attribute_named n) (heads b)) refl
      where
        by : (l : List Row) → keep (attribute_named n) (heads b) ≡ l
            → conforming s.version s.form (changed (set_at r.serial o v (map row_serial l)) s.docs)
            ≡ allows o.attribute.sort o.attribute.value v
        by [] k = added (λ y m. absent y m (attribute_named n y) refl)
          where
            absent : (y : Row) → Memᴰ y (heads b) → (c : Bool) → attribute_named n y ≡ c → c ≡ false
            absent y m true e = absurd (Memᴰ.not-nil (subst (λ (z : List Row). Memᴰ y z) k (keep_of (attribute_named n) (heads b) y m e)))
            absent y m false e = refl
        by (y ∷ ys) k = revalued_row y ys k
