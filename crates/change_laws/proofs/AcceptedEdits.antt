-- A call of changes 3 to 8 that is not refused is an edit of the owner's model at a place where it fits.
use Prim.Native.Nat.{ℕ}
use mathlib.Core.Path.{◌≡◌, refl, sym, ap, ◌∙◌}
use mathlib.Core.Bool.{Bool, true, false, ◌&&◌, not, ◌||◌, false≢true}
use mathlib.Core.Option.{Option, none, some}
use mathlib.Core.List.{List, []}
use lib.Dec.{ltb}
use lib.ListN.{length}
use Rattle.rules.specs.declared.Quantifier.{Quantifier}
use Rattle.rules.specs.Bytes.{Bytes, same, bytes}
use Rattle.rules.specs.Model.{Members, names, is_done, member}
use Rattle.rules.specs.Place.{Found}
use Rattle.rules.specs.Edit.{Edit, insert, remove, quantify, convert, flatten, place_of, first_members, has_members, insert_off, remove_last, remove_unmatched, quantify_off, quantify_group_off, group_unlike}
use Rattle.rules.specs.Store.{complex, Store, members}
use Rattle.rules.specs.Decode.{quantifier_of, group_of}
use Rattle.rules.specs.WellFormed.{lookup, is_there, reaches_in, well_formed}
use Rattle.rules.specs.Lines.{Line}
use Rattle.rules.specs.Change.{Call, create_definition, destroy_definition, insert_element, remove_element, change_quantifier, convert_to_group, flatten_group}
use Rattle.rules.specs.Change.{change_group_quantifier, add_attribute, destroy_attribute, add_document, add_element, destroy_element, set_attribute}
use Rattle.rules.specs.Change.{destroy_attribute_row, set_text, definition_at, name_at_index, edit_model, form_after, insert_plan, remove_plan, quantify_plan, picked_plan}
use Rattle.rules.specs.Change.{plan}
use Rattle.rules.specs.Refusal.{past_end, instance_exists, at_place, no_place, on_element, on_group, no_element_at, no_group_at, tail_of, flatten_unlike, is_complex, conditions}
use Rattle.rules.proofs.Children.{misplaced, unfit}
use Rattle.rules.proofs.Height.{reaches_test}
use Rattle.rules.proofs.WellFormedLaws.{well_formed_lem}
use Rattle.rules.proofs.Words.{or_split, or_both}
use Rattle.change_laws.proofs.InstanceEdits.{edit_plan}
use Rattle.change_laws.proofs.Conditions.{Unmet, not_past}
use Rattle.change_laws.proofs.EditConditions.{and_second, complex_content, picked_complex, element_some, group_some, has_some, remove_placed}
use Rattle.change_laws.proofs.EditConditions.{remove_fits, quantify_placed, element_fits_lem, group_fits, flatten_placed}
use Rattle.change_laws.proofs.FormLaws.{definition_found}
use Rattle.change_laws.proofs.ModelAfter.{place_right}
use Rattle.change_laws.proofs.Replacing.{Joins}
use Rattle.change_laws.proofs.EditFillings.{Insertable}
use borrow.Author.Tests.{not-false}

-- `o`, `at`, `edit`: the owner's index, the place and the edit; `txt`: the text of new rows
pub record Accepted (s : Store) (c : Call) : Type 0 where
  pub o : ℕ
  pub at : List ℕ
  pub edit : Edit Bytes
  pub txt : Bytes
  pub found : Found Bytes
  pub inside : ltb o (length s.form) ≡ true
  pub looked : lookup (name_at_index o s.form) s.form ≡ some (definition_at o s.form)
  pub content : (definition_at o s.form).content ≡ complex (members (definition_at o s.form))
  pub there : place_of edit at (members (definition_at o s.form)) ≡ some found
  pub placed : misplaced bytes edit found.context found.picked ≡ false
  pub fitting : instance_exists (name_at_index o s.form) s ≡ true → unfit edit found.context found.picked ≡ false
  pub insertable : Insertable s.form (name_at_index o s.form) edit
  pub planned : (ls : List Line) → plan c s.version s.form ls ≡ edit_plan s.version s.form ls (name_at_index o s.form) txt edit found.context found.picked
  pub formed : form_after c s.form ≡ edit_model o at edit s.form

-- ---- the calls
module _ (w : ℕ) (s : Store) (ok : well_formed w s.form ≡ true) (o : ℕ) (p : List ℕ) where
  inside_lookup : (i : ℕ) → past_end i s.form ≡ false → lookup (name_at_index i s.form) s.form ≡ some (definition_at i s.form)
  inside_lookup i e = definition_found i s.form ((well_formed_lem w s.form).0 ok).names (not_past i s.form e)

  accept : (c : Call) (e : Edit Bytes) (txt : Bytes) (f : Found Bytes) → past_end o s.form ≡ false → place_of e p (members (definition_at o s.form)) ≡ some f
      → is_complex (definition_at o s.form).content ≡ true
      → misplaced bytes e f.context f.picked ≡ false → (instance_exists (name_at_index o s.form) s ≡ true → unfit e f.context f.picked ≡ false)
      → Insertable s.form (name_at_index o s.form) e
      → ((ls : List Line) → plan c s.version s.form ls ≡ edit_plan s.version s.form ls (name_at_index o s.form) txt e f.context f.picked)
      → form_after c s.form ≡ edit_model o p e s.form → Accepted s c
  accept c e txt f l at x m u i pl fo =
      record {
        o = o;
        at = p;
        edit = e;
        txt = txt;
        found = f;
        looked = inside_lookup o l;
        inside = not-false (ltb o (length s.form)) l;
        content = complex_content (definition_at o s.form).content x;
        there = at;
        placed = m;
        fitting = u;
        insertable = i;
        planned = pl;
        formed = fo;
      }

  some_complex : (e : Edit Bytes) (f : Found Bytes) → place_of e p (members (definition_at o s.form)) ≡ some f → is_done f.picked ≡ false → is_complex (definition_at o s.form).content ≡ true
  some_complex e f at = picked_complex (definition_at o s.form).content f.context f.picked (place_right e p (members (definition_at o s.form)) f at)

  pub accepted_insert : (i q : ℕ) (t : Bytes) → Unmet (conditions (insert_element o p i q t) s) → Accepted s (insert_element o p i q t)
  unfolding conditions plan form_after misplaced unfit
  accepted_insert i q t (c3, (c4, (c6, (c8, (c9, (c10, (c11, (c12, (c13, z))))))))) = by (place_of e p model) refl c8 c13
    where
      n : Bytes
      n = name_at_index i s.form

      e : Edit Bytes
      e = insert (quantifier_of q) n

      model : Members Bytes
      model = members (definition_at o s.form)

      outside : Joins s.form (name_at_index o s.form) n
      outside =
          let (a, b) = or_split (past_end o s.form) (past_end i s.form) c6 in
          let (x, y) = or_split (same n (name_at_index o s.form)) (reaches_in s.form n (name_at_index o s.form)) c11 in
          record {
            known = ap is_there (inside_lookup i b);
            other = λ h. false≢true (sym x ∙ bytes.same← n (name_at_index o s.form) h);
            straight = λ r. false≢true (sym y ∙ (reaches_test s.form n (name_at_index o s.form)).1 r);
          }

      by : (x : Option (Found Bytes)) → place_of e p model ≡ x → no_place x ≡ false
          → (instance_exists (name_at_index o s.form) s && at_place (λ c y. insert_off c (quantifier_of q)) x) ≡ false → Accepted s (insert_element o p i q t)
      by none at a b = absurd (false≢true (sym a))
      by (some f) at a b =
          accept (insert_element o p i q t) e t f (or_split (past_end o s.form) (past_end i s.form) c6).0 at (not-false (is_complex (definition_at o s.form).content) c9)
          (ap (λ (z : Members Bytes). member bytes n (names z)) (place_right e p model f at) ∙ c10)
          (λ x. and_second (instance_exists (name_at_index o s.form) s) (insert_off f.context (quantifier_of q)) b x) outside
          (λ ls. ap (insert_plan s.version s.form (name_at_index o s.form) t (quantifier_of q) n) at) refl

  pub accepted_remove : Unmet (conditions (remove_element o p) s) → Accepted s (remove_element o p)
  unfolding conditions plan form_after
  accepted_remove (c6, (c8, (c14, (c15, z)))) = by (place_of remove p (members (definition_at o s.form))) refl c8 c14 c15
    where
      by : (x : Option (Found Bytes)) → place_of remove p (members (definition_at o s.form)) ≡ x → no_element_at x ≡ false → at_place (λ c y. remove_last c (tail_of y)) x ≡ false
          → (instance_exists (name_at_index o s.form) s && at_place (λ c y. remove_unmatched c (tail_of y)) x) ≡ false → Accepted s (remove_element o p)
      by none at a b d = absurd (false≢true (sym a))
      by (some f) at a b d =
          accept (remove_element o p) remove [] f c6 at (some_complex remove f at (element_some f.picked a)) (remove_placed f.context f.picked a b)
          (λ x. remove_fits f.context f.picked (and_second (instance_exists (name_at_index o s.form) s) (remove_unmatched f.context (tail_of f.picked)) d x)) tt
          (λ ls. ap (picked_plan (λ c t. remove_plan (name_at_index o s.form) t)) at) refl

  -- the plans and the forms of 5 and 8 are the same
  quantified : (c : Call) (r : Quantifier) (t : Bytes)
      → ((ls : List Line) → plan c s.version s.form ls
      ≡ picked_plan (quantify_plan s.version s.form ls (name_at_index o s.form) t r) (place_of (quantify r) p (members (definition_at o s.form))))
      → form_after c s.form ≡ edit_model o p (quantify r) s.form → past_end o s.form ≡ false → (f : Found Bytes)
      → place_of (quantify r) p (members (definition_at o s.form)) ≡ some f → is_done f.picked ≡ false
      → (instance_exists (name_at_index o s.form) s ≡ true → unfit (quantify r) f.context f.picked ≡ false) → Accepted s c
  quantified c r t pl fo l f at a u =
      accept c (quantify r) t f l at (some_complex (quantify r) f at a) (quantify_placed f.context r f.picked a) u tt
      (λ ls. pl ls ∙ ap (picked_plan (quantify_plan s.version s.form ls (name_at_index o s.form) t r)) at) fo

  pub accepted_quantify : (q : ℕ) (t : Bytes) → Unmet (conditions (change_quantifier o p q t) s) → Accepted s (change_quantifier o p q t)
  unfolding conditions plan form_after
  accepted_quantify q t (c3, (c4, (c6, (c8, (c12, (c13, z)))))) = by (place_of (quantify r) p (members (definition_at o s.form))) refl c8 c13
    where
      r : Quantifier
      r = quantifier_of q

      by : (x : Option (Found Bytes)) → place_of (quantify r) p (members (definition_at o s.form)) ≡ x → no_element_at x ≡ false
          → (instance_exists (name_at_index o s.form) s && at_place (λ c y. on_element false (λ old. quantify_off c old r) y) x) ≡ false → Accepted s (change_quantifier o p q t)
      by none at a d = absurd (false≢true (sym a))
      by (some f) at a d =
          quantified (change_quantifier o p q t) r t (λ ls. refl) refl c6 f at (element_some f.picked a)
          (λ x. element_fits_lem f.context r f.picked a (and_second (instance_exists (name_at_index o s.form) s) (on_element false (λ old. quantify_off f.context old r) f.picked) d x))

  pub accepted_quantify_group : (q : ℕ) (t : Bytes) → Unmet (conditions (change_group_quantifier o p q t) s) → Accepted s (change_group_quantifier o p q t)
  unfolding conditions plan form_after
  accepted_quantify_group q t (c3, (c4, (c6, (c8, (c12, (c13, z)))))) = by (place_of (quantify r) p (members (definition_at o s.form))) refl c8 c13
    where
      r : Quantifier
      r = quantifier_of q

      by : (x : Option (Found Bytes)) → place_of (quantify r) p (members (definition_at o s.form)) ≡ x → no_group_at x ≡ false
          → (instance_exists (name_at_index o s.form) s && at_place (λ c y. on_group false (λ old. quantify_group_off c old r) y) x) ≡ false → Accepted s (change_group_quantifier o p q t)
      by none at a d = absurd (false≢true (sym a))
      by (some f) at a d =
          quantified (change_group_quantifier o p q t) r t (λ ls. refl) refl c6 f at (group_some f.picked a)
          (λ x. group_fits f.context r f.picked a (and_second (instance_exists (name_at_index o s.form) s) (on_group false (λ old. quantify_group_off f.context old r) f.picked) d x))

  pub accepted_convert : (n k : ℕ) → Unmet (conditions (convert_to_group o p n k) s) → Accepted s (convert_to_group o p n k)
  unfolding conditions plan form_after misplaced unfit
  accepted_convert n k (c4, (c6, (c8, (c14, z)))) = by (place_of e p (members (definition_at o s.form))) refl c8 c14
    where
      e : Edit Bytes
      e = convert (group_of k) n

      by : (x : Option (Found Bytes)) → place_of e p (members (definition_at o s.form)) ≡ x → (no_place x || at_place (λ c y. not (has_members n y)) x) ≡ false
          → at_place (λ c y. group_unlike c (group_of k) (first_members n y)) x ≡ false
          → Accepted s (convert_to_group o p n k)
      by none at a b = absurd (false≢true (sym a))
      by (some f) at a b =
          accept (convert_to_group o p n k) e [] f c6 at (some_complex e f at (has_some n f.picked a))
          (or_both (not (has_members n f.picked)) (group_unlike f.context (group_of k) (first_members n f.picked)) a b)
          (λ x. refl) tt (λ ls. refl) refl

  pub accepted_flatten : Unmet (conditions (flatten_group o p) s) → Accepted s (flatten_group o p)
  unfolding conditions plan form_after unfit
  accepted_flatten (c6, (c8, (c14, z))) = by (place_of flatten p (members (definition_at o s.form))) refl c8 c14
    where
      by : (x : Option (Found Bytes)) → place_of flatten p (members (definition_at o s.form)) ≡ x → no_group_at x ≡ false → at_place flatten_unlike x ≡ false → Accepted s (flatten_group o p)
      by none at a b = absurd (false≢true (sym a))
      by (some f) at a b =
          accept (flatten_group o p) flatten [] f c6 at (some_complex flatten f at (group_some f.picked a)) (flatten_placed f.context f.picked a b) (λ x. refl) tt (λ ls. refl) refl

-- changes 3 to 8
abbrev pub edits_model : Call → Bool
edits_model (create_definition n k) = false
edits_model (destroy_definition i) = false
edits_model (insert_element o p i q t) = true
edits_model (remove_element o p) = true
edits_model (change_quantifier o p q t) = true
edits_model (convert_to_group o p n k) = true
edits_model (flatten_group o p) = true
edits_model (change_group_quantifier o p q t) = true
edits_model (add_attribute o n k v) = false
edits_model (destroy_attribute a) = false
edits_model (add_document i t) = false
edits_model (add_element k j i t) = false
edits_model (destroy_element k) = false
edits_model (set_attribute k a v) = false
edits_model (destroy_attribute_row k a) = false
edits_model (set_text k t) = false

pub accepted_edit : (w : ℕ) (s : Store) → well_formed w s.form ≡ true → (c : Call) → edits_model c ≡ true → Unmet (conditions c s) → Accepted s c
accepted_edit w s ok (create_definition n k) e h = absurd (false≢true e)
accepted_edit w s ok (destroy_definition i) e h = absurd (false≢true e)
accepted_edit w s ok (insert_element o p i q t) e h = accepted_insert w s ok o p i q t h
accepted_edit w s ok (remove_element o p) e h = accepted_remove w s ok o p h
accepted_edit w s ok (change_quantifier o p q t) e h = accepted_quantify w s ok o p q t h
accepted_edit w s ok (convert_to_group o p n k) e h = accepted_convert w s ok o p n k h
accepted_edit w s ok (flatten_group o p) e h = accepted_flatten w s ok o p h
accepted_edit w s ok (change_group_quantifier o p q t) e h = accepted_quantify_group w s ok o p q t h
accepted_edit w s ok (add_attribute o n k v) e h = absurd (false≢true e)
accepted_edit w s ok (destroy_attribute a) e h = absurd (false≢true e)
accepted_edit w s ok (add_document i t) e h = absurd (false≢true e)
accepted_edit w s ok (add_element k j i t) e h = absurd (false≢true e)
accepted_edit w s ok (destroy_element k) e h = absurd (false≢true e)
accepted_edit w s ok (set_attribute k a v) e h = absurd (false≢true e)
accepted_edit w s ok (destroy_attribute_row k a) e h = absurd (false≢true e)
accepted_edit w s ok (set_text k t) e h = absurd (false≢true e)
