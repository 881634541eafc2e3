-- THE STORE AFTER CHANGES 11 TO 16, where no condition of the refusal
-- table holds: the bodies after the plan by indices.
use Prim.Native.Nat.{ℕ}
use mathlib.Core.Path.{◌≡◌, refl, sym, subst}
use mathlib.Core.Bool.{Bool, true, false, false≢true}
use mathlib.Core.Option.{Option, none, some}
use mathlib.Core.List.{[]}
use lib.Dec.{eqb}
use Rattle.rules.specs.Bytes.{Bytes}
use Rattle.rules.specs.Store.{Row, Forest, Store}
use Rattle.rules.specs.Layout.{FlatRow, indexed, flat}
use Rattle.rules.specs.Lines.{lines, element_with, attribute_named, find_row, children_of, serial_at}
use Rattle.rules.specs.Passing.{good}
use Rattle.rules.specs.Refusal.{first, is_other, conditions}
use Rattle.rules.specs.Change.{add_document, add_element, destroy_element, set_attribute, destroy_attribute_row, set_text, Owned, attribute_at, form_after, after}
use Rattle.rules.proofs.PassingLaws.{good_is}
use Rattle.change_laws.proofs.Conditions.{not_past, none_holds}
use Rattle.filling.specs.declared.Filling.TheVariants.{Attribute}
use Rattle.row_walk.specs.declared.Which.TheVariants.{Serial}
use Rattle.row_walk.specs.declared.Later.TheVariants.{Past}
use Rattle.row_walk.specs.declared.Plan.{Plan}
use Rattle.row_walk.specs.Walk.{matches}
use Rattle.planned_rows.specs.Planned.{planned}
use Rattle.plans.specs.Following.{Does}
use Rattle.plans.specs.CallPlans.{child_serial, attribute_serial, text_serial, filling_plan, setting_plan, add_document_plan, add_element_plan, destroy_element_plan}
use Rattle.plans.specs.CallPlans.{set_attribute_plan, destroy_attribute_row_plan, set_text_plan}
use Rattle.plans.proofs.TreeWalk.{Clear, apart, everywhere, none_of, none_apart}
use Rattle.plans.proofs.Planned.{flat_planned}
use Rattle.plans.proofs.ApartLaws.{apart_serial}
use Rattle.plans.proofs.DocumentPlans.{add_document_does, add_element_does, destroy_element_does, set_text_does}
use Rattle.plans.proofs.AttributePlans.{set_attribute_does, destroy_attribute_row_does}

-- an attribute that is not unknown is there
pub owned_there : (x : Option Owned) (r : Option Row) → is_other x r ≡ false → (o : Owned) × (x ≡ some o)
owned_there none r e = absurd (false≢true (sym e))
owned_there (some o) r e = (o, refl)

pub attribute_serial_lem : (k a : ℕ) (s : Store) (o : Owned) → attribute_at a s.form ≡ some o
    → attribute_serial k a s ≡ serial_at 0 (children_of (attribute_named o.attribute.name) k (lines 0 s.docs))
attribute_serial_lem k a s o at = rw (at, attribute_serial)

module _ (s : Store) (g : good s ≡ true) where
  -- ---- what the walk over the rows in a list asks of a plan
  abbrev rows : Forest FlatRow
  rows = indexed s.form [] s.docs

  clear_never : (p : Plan) → ((x : FlatRow) → matches p.above x ≡ false) → Clear p rows
  clear_never p h = apart (none_apart (matches p.above) rows (none_of (matches p.above) h rows))

  clear_serial : (k : ℕ) (p : Plan) → p.above ≡ Serial k → Clear p rows
  clear_serial k p e = apart (rw e (apart_serial s.form k [] s.docs ((good_is s).0 g).serials.once))

  clear_set : (k a m : ℕ) → Clear (set_attribute_plan k a m) rows
  clear_set k a m = by (eqb m 0)
    where
      by : (c : Bool) → Clear (elim c as (λ z. Plan) [ true ↦ filling_plan (Serial k) (Past a) (Attribute a) | false ↦ setting_plan m ]) rows
      by true = clear_serial k (filling_plan (Serial k) (Past a) (Attribute a)) refl
      by false = clear_never (setting_plan m) (λ x. refl)

  -- ---- the calls
  pub add_document_planned : (i : ℕ) (t : Bytes) → first (conditions (add_document i t) s) ≡ 0 → flat (after (add_document i t) s) ≡ planned (add_document_plan i) t (flat s)
  unfolding conditions form_after
  add_document_planned i t e =
      let (text, (index, end)) = none_holds (add_document i t) s e in
      flat_planned (add_document i t) s (add_document_plan i) t refl (clear_never (add_document_plan i) (λ x. refl)) (add_document_does s g i t (not_past i s.form index))

  pub add_element_planned : (k j i : ℕ) (t : Bytes) → first (conditions (add_element k j i t) s) ≡ 0 → flat (after (add_element k j i t) s) ≡ planned (add_element_plan k (child_serial k j s) i) t (flat s)
  unfolding conditions form_after
  add_element_planned k j i t e =
      let (text, (index, more)) = none_holds (add_element k j i t) s e in
      flat_planned (add_element k j i t) s (add_element_plan k (child_serial k j s) i) t refl (clear_serial k (add_element_plan k (child_serial k j s) i) refl)
      (add_element_does s g k j i t (not_past i s.form index))

  -- any text: none is used
  pub destroy_element_planned : (k : ℕ) (v : Bytes) → flat (after (destroy_element k) s) ≡ planned (destroy_element_plan k) v (flat s)
  unfolding form_after
  destroy_element_planned k v = flat_planned (destroy_element k) s (destroy_element_plan k) v refl (everywhere refl refl) (destroy_element_does s g k v)

  pub set_attribute_planned : (k a : ℕ) (v : Bytes) → first (conditions (set_attribute k a v) s) ≡ 0
      → flat (after (set_attribute k a v) s) ≡ planned (set_attribute_plan k a (attribute_serial k a s)) v (flat s)
  unfolding conditions form_after
  set_attribute_planned k a v e =
      let (text, (index, more)) = none_holds (set_attribute k a v) s e in
      let (o, at) = owned_there (attribute_at a s.form) (find_row (element_with k) (lines 0 s.docs)) index in
      flat_planned (set_attribute k a v) s (set_attribute_plan k a (attribute_serial k a s)) v refl (clear_set k a (attribute_serial k a s))
      (subst (λ (m : ℕ). Does (set_attribute k a v) s (set_attribute_plan k a m) v) (sym (attribute_serial_lem k a s o at)) (set_attribute_does s g k a o at index v))

  -- any text: none is used
  pub destroy_attribute_row_planned : (k a : ℕ) (v : Bytes) → first (conditions (destroy_attribute_row k a) s) ≡ 0
      → flat (after (destroy_attribute_row k a) s) ≡ planned (destroy_attribute_row_plan k a) v (flat s)
  unfolding conditions form_after
  destroy_attribute_row_planned k a v e =
      let (index, more) = none_holds (destroy_attribute_row k a) s e in
      let (o, at) = owned_there (attribute_at a s.form) (find_row (element_with k) (lines 0 s.docs)) index in
      flat_planned (destroy_attribute_row k a) s (destroy_attribute_row_plan k a) v refl (clear_serial k (destroy_attribute_row_plan k a) refl) (destroy_attribute_row_does s g k a o at index v)

  pub set_text_planned : (k : ℕ) (t : Bytes) → flat (after (set_text k t) s) ≡ planned (set_text_plan (text_serial k s)) t (flat s)
  unfolding form_after
  set_text_planned k t = flat_planned (set_text k t) s (set_text_plan (text_serial k s)) t refl (clear_never (set_text_plan (text_serial k s)) (λ x. refl)) (set_text_does s g k t)
