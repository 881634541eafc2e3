-- Changes 3 to 8: each row fits the form that the call leaves, with the rows that are right below it then.
use Prim.Native.Nat.{ℕ}
use mathlib.Core.Path.{◌≡◌, refl, sym, ap, ◌∙◌}
use mathlib.Core.Bool.{Bool, true, false, false≢true}
use mathlib.Core.Option.{Option, some}
use mathlib.Core.List.{List}
use lib.Dec.{ltb→lt}
use lib.ListN.{length}
use Rattle.rules.specs.Bytes.{Bytes, same, bytes, same_eq, is_none, to_T}
use Rattle.rules.specs.Place.{Found}
use Rattle.rules.specs.Store.{Content, complex, Definition, Form, RowSort, element, attribute, text, Row, Store, members}
use Rattle.rules.specs.WellFormed.{lookup, well_formed}
use Rattle.rules.specs.Conforming.{is_element, every_row, fits_definition, fits_row}
use Rattle.rules.specs.Lines.{Line, element_named}
use Rattle.rules.specs.Change.{Call, Plan, definition_at, name_at_index, in_content, in_model, edit_found, edit_at, form_after, plan}
use Rattle.rules.specs.Refusal.{instance_exists}
use Rattle.rules.proofs.Words.{and_both, and_split}
use Rattle.rules.proofs.WellFormedLaws.{well_formed_lem}
use Rattle.change_laws.proofs.RowEdits.{children_after}
use Rattle.change_laws.proofs.InstanceEdits.{edit_plan, Below, edit_others}
use Rattle.change_laws.proofs.FormLaws.{update_this, update_other}
use Rattle.change_laws.proofs.EditFillings.{fits_alike, filling_fits_in}
use Rattle.change_laws.proofs.InstanceFits.{edited_definition, instance_fits}
use Rattle.change_laws.proofs.AcceptedEdits.{Accepted}

fits_element : (version : ℕ) (form : Form) (u : Row) (d : Definition) (rows : List Row) → is_element u.sort ≡ true → lookup u.name form ≡ some d
    → fits_row version form u rows ≡ fits_definition version (some d) rows
unfolding fits_row
fits_element version form u d rows e q = by u.sort e ∙ ap (λ (o : Option Definition). fits_definition version o rows) q
  where
    by : (s : RowSort) → is_element s ≡ true
        → elim s as (λ x. Bool) [ element ↦ fits_definition version (lookup u.name form) rows | attribute ↦ is_none rows | text ↦ is_none rows ] ≡ fits_definition version (lookup u.name form) rows
    by element e = refl
    by attribute e = absurd (false≢true e)
    by text e = absurd (false≢true e)

module _ (w : ℕ) (s : Store) (ok : well_formed w s.form ≡ true) (c : Call) (a : Accepted s c) where
  -- the owner's definition after the call
  pub owner_after : lookup (name_at_index a.o s.form) (form_after c s.form) ≡ some (edited_definition (definition_at a.o s.form) a.edit a.found)
  owner_after =
      ap (lookup d.name) a.formed
      ∙ update_this (in_model (edit_at a.edit a.at)) (λ x. refl) a.o s.form ((well_formed_lem w s.form).0 ok).names (ltb→lt a.o (length s.form) (to_T a.inside))
      ∙ ap (λ (z : Content). some (record { name = d.name; content = z; attributes = d.attributes }))
      (ap (in_content (edit_at a.edit a.at)) a.content ∙ ap (λ (z : Option (Found Bytes)). complex (edit_found a.edit (members d) z)) a.there)
    where
      d : Definition
      d = definition_at a.o s.form

  -- the other definitions
  pub others_after : (n : Bytes) → (n ≡ name_at_index a.o s.form → ⊥) → lookup n (form_after c s.form) ≡ lookup n s.form
  others_after n f = ap (lookup n) a.formed ∙ update_other (in_model (edit_at a.edit a.at)) (λ x. refl) a.o s.form n f

  pub row_fits_after : (ls : List Line) (u : Row) (rows : List Row) → (element_named (name_at_index a.o s.form) u ≡ true → instance_exists (name_at_index a.o s.form) s ≡ true) → Below ls u rows
      → fits_row s.version s.form u rows ≡ true → fits_row s.version (form_after c s.form) u (children_after (plan c s.version s.form ls) u rows) ≡ true
  row_fits_after ls u rows seen below h = ap (λ (z : Plan). fits_row s.version (form_after c s.form) u (children_after z u rows)) (a.planned ls) ∙ by (element_named d.name u) refl
    where
      d : Definition
      d = definition_at a.o s.form

      after : List Row
      after = children_after (edit_plan s.version s.form ls d.name a.txt a.edit a.found.context a.found.picked) u rows

      by : (b : Bool) → element_named d.name u ≡ b → fits_row s.version (form_after c s.form) u after ≡ true
      by true named =
          let (is, called) = and_split (is_element u.sort) (same d.name u.name) named in
          let q : u.name ≡ d.name = sym (same_eq d.name u.name called) in
          fits_element s.version (form_after c s.form) u (edited_definition d a.edit a.found) after is (ap (λ (z : Bytes). lookup z (form_after c s.form)) q ∙ owner_after)
          ∙ instance_fits s.version w s.form ok d a.looked (members d) a.content a.edit a.at a.found a.there a.placed (a.fitting (seen named)) ls a.txt u rows
          a.insertable named below
          (sym (fits_element s.version s.form u d rows is (ap (λ (z : Bytes). lookup z s.form) q ∙ a.looked)) ∙ h)
      by false other =
          fits_alike s.version s.form (form_after c s.form) u after
          (λ e. others_after u.name (λ q. false≢true (sym other ∙ and_both (ap is_element e) (bytes.same← d.name u.name (sym q)))))
          ∙ ap (fits_row s.version s.form u) (edit_others s.version s.form ls d.name a.txt u rows other below.given a.found.context a.edit a.found.picked)
          ∙ h

  -- the rows made fit too
  pub filling_fits_after : (ls : List Line) → every_row (λ x b. fits_row s.version (form_after c s.form) x b) (plan c s.version s.form ls).filling ≡ true
  filling_fits_after ls =
      ap (λ (z : Plan). every_row (λ x b. fits_row s.version (form_after c s.form) x b) z.filling) (a.planned ls)
      ∙ filling_fits_in w s.form ok (definition_at a.o s.form) a.looked (members (definition_at a.o s.form)) a.content a.edit a.at a.found a.there
      s.version ls a.txt a.insertable (form_after c s.form) others_after
