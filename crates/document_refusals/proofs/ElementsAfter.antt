-- 12 and 13: whether the documents conform after an element is added or destroyed, as a test of the rows right above.
use Prim.Native.Nat.{ℕ, ◌<◌, ◌≤◌}
use mathlib.Core.Path.{◌≡◌, refl, sym, ap, ap₂, ◌∙◌, subst}
use mathlib.Core.Logic.{◌⊎◌, inl, inr}
use mathlib.Core.Bool.{Bool, true, false, ◌&&◌, not, false≢true}
use mathlib.Core.Option.{Option, some}
use mathlib.Core.List.Memᴰ
use mathlib.Core.List.{List, map, Memᴰ}
use lib.Dec.{eqb}
use lib.ListN.{length}
use Rattle.rules.specs.Bytes.{Bytes, bytes, numbers, eqb_eq}
use Rattle.rules.specs.Model.{Distinct}
use Rattle.rules.specs.Automaton.{accepts}
use Rattle.rules.specs.Store.{Definition, element, Row, Forest, Store, heads, members}
use Rattle.rules.specs.Layout.{value_width}
use Rattle.rules.specs.WellFormed.{attribute_name, lookup, is_there, well_formed}
use Rattle.rules.specs.Conforming.{name_of, ElementRows, is_element, fits_row, fits_definition, conforming}
use Rattle.rules.specs.Passing.{serials, Good}
use Rattle.rules.specs.Filling.{element_row, fill_definition}
use Rattle.rules.specs.Lines.{lines, is_element_row, element_with, children_of, serial_at}
use Rattle.rules.specs.Change.{Call, add_element, destroy_element, name_at_index, Plan, making, taking, plan, docs_after, after}
use Rattle.rules.specs.Refusal.{is_complex}
use Rattle.rules.proofs.Words.{and_both, and_split}
use Rattle.rules.proofs.Apart.{differs}
use Rattle.rules.proofs.Height.{deep}
use Rattle.rules.proofs.WellFormedLaws.{well_formed_lem, definition_good, definition_deep}
use Rattle.rules.proofs.ConformingLaws.{conforming_is}
use Rattle.rules.proofs.FillingLaws.{filling_heads, filling_fits}
use Rattle.change_laws.proofs.RowEdits.{row_serial, keep, plant_rows, revalued, children_after}
use Rattle.change_laws.proofs.Rowwise.{Standing}
use Rattle.change_laws.proofs.FormLaws.{definition_found}
use Rattle.change_laws.proofs.StandingLaws.{standing_head, standing_below, standing_serial, one_row_lem, children_are, children_once, children_given}
use Rattle.change_laws.proofs.Untouched.{map_same, children_left, children_cut, children_kept, same_row_lem, same_child}
use Rattle.change_laws.proofs.Numbered.{conforming_number}
use Rattle.change_laws.proofs.ConformingAfter.{conforming_changed, fits_element}
use Rattle.change_laws.proofs.InstanceRows.{keep_in}
use Rattle.document_refusals.proofs.ConformingTests.{Clear, conforming_local}
use Rattle.document_refusals.proofs.ElementTests.{put_at, added, lessened}
use Rattle.document_refusals.proofs.ParentLaws.{not_below, one_parent}

module _ (s : Store) (g : Good s) where
  pub ok : well_formed (value_width s.version) s.form ≡ true
  ok = (well_formed_lem (value_width s.version) s.form).1 g.form

  pub fine : conforming s.version s.form s.docs ≡ true
  fine =
      (conforming_is s.version s.form (λ n d e. (definition_good (value_width s.version) s.form ok n d e).once)
      (λ n d e. (definition_good (value_width s.version) s.form ok n d e).attribute_names) s.docs).1 g.docs

  pub unnumbered : (c : Call) → conforming s.version s.form (after c s).docs ≡ conforming s.version s.form (docs_after c s)
  unfolding after
  unnumbered c = conforming_number s.version s.form s.next (docs_after c s)

  -- an element row, its definition, and the rows right below it
  module _ (r : Row) (b : Forest Row) (i : Standing s.docs r b) (is : r.sort ≡ element) (d : Definition) (found : lookup r.name s.form ≡ some d)
      (x : ElementRows s.version d (heads b)) where
    pub apart : Distinct (map attribute_name d.attributes)
    apart = (definition_good (value_width s.version) s.form ok r.name d found).attribute_names

    pub row_fits_lem : (rows : List Row) → fits_row s.version s.form r rows ≡ fits_definition s.version (some d) rows
    row_fits_lem rows = fits_element s.version s.form r rows is ∙ ap (λ (o : Option Definition). fits_definition s.version o rows) found

    -- ---- 12
    module _ (j n : ℕ) (t : Bytes) (l : n < length s.form) (m : j ≤ length (keep is_element_row (heads b))) where
      name : Bytes
      name = name_at_index n s.form

      p : Plan
      p = making (element_with r.serial) (λ u y. eqb y.serial (serial_at j (children_of is_element_row r.serial (lines 0 s.docs))))
          (fill_definition s.version s.form t (name_at_index n s.form))

      height : deep (length s.form) s.form (name_at_index n s.form) ≡ true
      height = definition_deep (value_width s.version) s.form ok (name_at_index n s.form) (ap is_there (definition_found n s.form g.form.names l))

      fills_here : p.fills r ≡ true
      unfolding p
      fills_here = and_both (ap is_element is) (numbers.same← r.serial r.serial refl)

      fills_not : (u : Row) → (u.serial ≡ r.serial → ⊥) → p.fills u ≡ false
      unfolding p
      fills_not u f = by (is_element u.sort) (differs numbers u.serial r.serial f)
        where
          by : (c : Bool) → eqb u.serial r.serial ≡ false → (c && eqb u.serial r.serial) ≡ false
          by true e = e
          by false e = refl

      after_here : children_after p r (heads b) ≡ plant_rows p r true (heads b)
      unfolding p
      after_here =
          children_left p r (heads b) (λ u k. refl)
          ∙ ap₂ (λ (z : Row) (rows : List Row). plant_rows p z (p.fills z) rows) (same_row_lem s.next s.docs g.serials p refl r b i)
          (map_same (revalued p) (heads b) (same_child s.next s.docs g.serials p refl r b i))
          ∙ ap (λ (c : Bool). plant_rows p r c (heads b)) fills_here

      pub add_conforms : conforming s.version s.form (after (add_element r.serial j n t) s).docs
          ≡ (is_complex d.content && accepts bytes (members d) (put_at j (name_at_index n s.form) (map name_of (keep is_element_row (heads b)))))
      unfolding p plan
      add_conforms =
          unnumbered (add_element r.serial j n t)
          ∙ conforming_local s.version s.form s.next s.docs g.serials fine p refl
          (filling_fits s.version s.form (λ m e q. (definition_good (value_width s.version) s.form ok m e q).once)
          (λ m e q. (definition_good (value_width s.version) s.form ok m e q).attribute_names)
          (λ m e q. (definition_good (value_width s.version) s.form ok m e q).groups) t (length s.form) (name_at_index n s.form) height)
          r b i (λ v u c k y. refl)
          (λ u c k f h. ap₂ (λ (z : Row) (rows : List Row). fits_row s.version s.form z rows) (same_row_lem s.next s.docs g.serials p refl u c k)
          (children_kept s.next s.docs g.serials p refl u c k (λ y o. refl) (fills_not u f))
          ∙ h)
          ∙ ap₂ (λ (z : Row) (rows : List Row). fits_row s.version s.form z rows) (same_row_lem s.next s.docs g.serials p refl r b i) after_here
          ∙ row_fits_lem (plant_rows p r true (heads b))
          ∙ added d apart (heads b) x p r (element_row (name_at_index n s.form)) (serial_at j (children_of is_element_row r.serial (lines 0 s.docs)))
          (filling_heads s.version (length s.form) s.form t (name_at_index n s.form) height) (λ y. refl) refl
          (children_once s.next s.docs g.serials r b i) (children_given s.next s.docs g.serials r b i) j
          (ap (serial_at j) (children_are s.next s.docs g.serials is_element_row r b i)) m

    -- ---- 13, of an element right below it
    module _ (k : ℕ) (y : Row) (m : Memᴰ y (heads b)) (here : element_with k y ≡ true) where
      q : Plan
      q = taking (λ u z. element_with k z)

      serial_here : y.serial ≡ k
      serial_here = eqb_eq y.serial k (and_split (is_element y.sort) (eqb y.serial k) here).1

      not_taken : (u : Row) → (u.serial ≡ k → ⊥) → element_with k u ≡ false
      not_taken u f = by (is_element u.sort) (differs numbers u.serial k f)
        where
          by : (c : Bool) → eqb u.serial k ≡ false → (c && eqb u.serial k) ≡ false
          by true e = e
          by false e = refl

      clear : Clear q s.docs r b
      unfolding q
      clear v u c j z = not_taken u (λ e. not_below s.docs g.serials.once u c j (Memᴰ.cast (e ∙ sym serial_here) (inside z)))
        where
          inside : (u ≡ r) ⊎ Standing c r b → Memᴰ y.serial (serials c)
          inside (inl h) =
              let (h₁, h₂) = one_row_lem s.next s.docs g.serials u r c b j i (ap row_serial h) in
              let (e, o) = standing_head b y m in
              subst (λ (f : Forest Row). Memᴰ y.serial (serials f)) (sym h₂) (standing_serial b y e o)
          inside (inr h) =
              let (e, o) = standing_head b y m in
              standing_serial c y e (standing_below c r b h y e o)

      untouched : (u : Row) (c : Forest Row) → Standing s.docs u c → (u.serial ≡ r.serial → ⊥) → (z : Row) → Memᴰ z (heads c) → element_with k z ≡ false
      untouched u c j f z o =
          not_taken z
          (λ e. f (ap row_serial (one_parent s.docs g.serials.once k u r c b j i (Memᴰ.cast (sym e) (Memᴰ.map row_serial o)) (Memᴰ.cast (sym serial_here) (Memᴰ.map row_serial m)))))

      pub destroy_conforms : conforming s.version s.form (after (destroy_element k) s).docs
          ≡ accepts bytes (members d) (map name_of (keep (λ z. not (element_with k z)) (keep is_element_row (heads b))))
      unfolding q plan
      destroy_conforms =
          unnumbered (destroy_element k)
          ∙ conforming_local s.version s.form s.next s.docs g.serials fine q refl refl r b i clear
          (λ u c j f h. ap₂ (λ (z : Row) (rows : List Row). fits_row s.version s.form z rows) (same_row_lem s.next s.docs g.serials q refl u c j)
          (children_kept s.next s.docs g.serials q refl u c j (untouched u c j f) refl)
          ∙ h)
          ∙ ap₂ (λ (z : Row) (rows : List Row). fits_row s.version s.form z rows) (same_row_lem s.next s.docs g.serials q refl r b i)
          (children_cut q r (heads b) refl
          ∙ map_same (revalued q) (keep (λ z. not (element_with k z)) (heads b))
          (λ z o. same_child s.next s.docs g.serials q refl r b i z (keep_in (λ z. not (element_with k z)) (heads b) z o)))
          ∙ row_fits_lem (keep (λ z. not (element_with k z)) (heads b))
          ∙ lessened d apart (heads b) x k (λ z. not (element_with k z)) (λ z. refl) y m here

  -- ---- 13, of an element that is right below none
  pub root_conforms : (k : ℕ) → ((u : Row) (c : Forest Row) → Standing s.docs u c → (z : Row) → Memᴰ z (heads c) → element_with k z ≡ false)
      → conforming s.version s.form (after (destroy_element k) s).docs ≡ true
  unfolding plan
  root_conforms k f =
      unnumbered (destroy_element k)
      ∙ conforming_changed s.version s.form s.form (taking (λ u z. element_with k z)) s.docs (λ e. absurd (false≢true e)) refl
      (λ u c j h. ap₂ (λ (z : Row) (rows : List Row). fits_row s.version s.form z rows)
      (same_row_lem s.next s.docs g.serials (taking (λ u z. element_with k z)) refl u c j)
      (children_kept s.next s.docs g.serials (taking (λ u z. element_with k z)) refl u c j (f u c j) refl)
      ∙ h)
      fine
