-- An accepted call leaves rows that can be laid, and, if it is none of 3 to 8, documents that conform.
use Prim.Native.Nat.{ℕ}
use mathlib.Core.Path.{◌≡◌, refl, sym, ap, subst}
use mathlib.Core.Bool.{true, false, false≢true}
use mathlib.Core.Option.{Option, none, some}
use mathlib.Core.List.{[], ◌∷◌, ◌++◌, map}
use Rattle.rules.specs.Bytes.{Bytes, bytes, any}
use Rattle.rules.specs.Model.{names, Distinct, member}
use Rattle.rules.specs.Store.{Definition, Store, members, heads}
use Rattle.rules.specs.Layout.{value_width, index_of, flat}
use Rattle.rules.specs.WellFormed.{definition_name, is_there, is_value, within_ceilings, well_formed}
use Rattle.rules.specs.Conforming.{every_row, conforming}
use Rattle.rules.specs.Lines.{element_named}
use Rattle.rules.specs.Change.{Call, create_definition, destroy_definition, insert_element, remove_element, change_quantifier, convert_to_group, flatten_group}
use Rattle.rules.specs.Change.{change_group_quantifier, add_attribute, destroy_attribute, add_document, add_element, destroy_element, set_attribute}
use Rattle.rules.specs.Change.{destroy_attribute_row, set_text, name_at_index, Owned, attribute_at, update, with_attributes, lacking, new_attribute}
use Rattle.rules.specs.Change.{form_after, docs_after, after}
use Rattle.rules.specs.Passing.{known_version, laid_row, GoodSerials, good_serials, good}
use Rattle.rules.specs.Refusal.{is_other, conditions, refusal}
use Rattle.rules.proofs.Words.{and_split, or_split}
use Rattle.rules.proofs.SerialLaws.{good_serials_lem}
use Rattle.rules.proofs.WellFormedLaws.{well_formed_lem}
use Rattle.change_laws.proofs.Conditions.{not_past, unmet}
use Rattle.change_laws.proofs.FormLaws.{definition_found, lookup_old, without_other, owner_at_lem, owner_below}
use Rattle.change_laws.proofs.AcceptedEdits.{edits_model}
use Rattle.change_laws.proofs.Numbered.{conforming_number}
use Rattle.change_laws.proofs.ConformingAfter.{Replaced, replaced_at}
use Rattle.change_laws.proofs.ConformingForms.{conforming_1, conforming_2, conforming_9, conforming_10}
use Rattle.change_laws.proofs.ConformingRows.{conforming_11, conforming_checked, conforming_16}
use Rattle.change_laws.proofs.LaidAfter.{given_value, laid_after}
use borrow.Author.Tests.{not-false}

-- what `good` says of the form and the rows, as tests
pub record GoodTests (s : Store) : Type 0 where
  pub form : well_formed (value_width s.version) s.form ≡ true
  pub docs : conforming s.version s.form s.docs ≡ true
  pub values : every_row (λ r below. laid_row (value_width s.version) r) s.docs ≡ true
  pub serials : GoodSerials s.next s.docs

pub good_tests : (s : Store) → good s ≡ true → GoodTests s
unfolding good
good_tests s e =
    let (v, e₁) = and_split (known_version s.version) _ e in
    let (c, e₂) = and_split (within_ceilings (flat s)) _ e₁ in
    let (f, e₃) = and_split (well_formed (value_width s.version) s.form) _ e₂ in
    let (d, e₄) = and_split (conforming s.version s.form s.docs) _ e₃ in
    let (l, n) = and_split (every_row (λ r below. laid_row (value_width s.version) r) s.docs) (good_serials s.next s.docs) e₄ in
    record { form = f; docs = d; values = l; serials = (good_serials_lem s.next s.docs).0 n }

-- the test on the store that is left is that on the rows without new serials
pub conforming_after : (c : Call) (s : Store) → conforming (after c s).version (after c s).form (after c s).docs ≡ conforming s.version (form_after c s.form) (docs_after c s)
unfolding after
conforming_after c s = conforming_number s.version (form_after c s.form) s.next (docs_after c s)

module _ (room : ℕ) (s : Store) (x : GoodTests s) where
  abbrev w : ℕ
  w = value_width s.version

  once : Distinct (map definition_name s.form)
  once = ((well_formed_lem w s.form).0 x.form).names

  after_1 : (n : Bytes) (k : ℕ) → conforming s.version (form_after (create_definition n k) s.form) (docs_after (create_definition n k) s) ≡ true
  unfolding form_after
  after_1 n k = conforming_1 w s x.form x.serials x.docs n k (λ m e. lookup_old m s.form _ e)

  after_2 : (i : ℕ) → refusal room (destroy_definition i) s ≡ 0 → conforming s.version (form_after (destroy_definition i) s.form) (docs_after (destroy_definition i) s) ≡ true
  unfolding form_after conditions
  after_2 i a =
      let (there, (used, end)) = unmet room (destroy_definition i) s a in
      let (models, roots) =
      or_split (any (λ (d : Definition). member bytes (name_at_index i s.form) (names (members d))) s.form)
      (any (element_named (name_at_index i s.form)) (heads s.docs)) used in
      conforming_2 w s x.form x.serials x.docs i models roots (without_other i s.form)

  after_9 : (o : ℕ) (n : Bytes) (k : ℕ) (v : Bytes) → refusal room (add_attribute o n k v) s ≡ 0
      → conforming s.version (form_after (add_attribute o n k v) s.form) (docs_after (add_attribute o n k v) s) ≡ true
  unfolding form_after conditions
  after_9 o n k v a =
      let (name, (value, (code, (fresh, (there, more))))) = unmet room (add_attribute o n k v) s a in
      conforming_9 w s x.form x.serials x.docs o n k v fresh
      (replaced_at s.form once o (not_past o s.form there) (with_attributes (λ table. table ++ new_attribute n k v ∷ [])) (λ d. refl))

  after_10 : (a : ℕ) (y : Option Owned) → attribute_at a s.form ≡ y → is_other y none ≡ false
      → conforming s.version (form_after (destroy_attribute a) s.form) (docs_after (destroy_attribute a) s) ≡ true
  unfolding form_after
  after_10 a none q e = absurd (false≢true (sym e))
  after_10 a (some o) q e = conforming_10 w s x.form x.serials x.docs o a q replaced
    where
      j : ℕ
      j = index_of o.owner.name s.form

      less : Definition → Definition
      less = with_attributes (lacking o.attribute.name)

      replaced : Replaced s.form (form_after (destroy_attribute a) s.form) o.owner (with_attributes (lacking o.attribute.name) o.owner)
      replaced =
          rw (q, form_after)
          (subst (λ (d : Definition). Replaced s.form (update j less s.form) d (less d)) (owner_at_lem a s.form once o q)
          (replaced_at s.form once j (owner_below a s.form once o q) less (λ d. refl)))

  after_11 : (i : ℕ) (t : Bytes) → refusal room (add_document i t) s ≡ 0 → conforming s.version (form_after (add_document i t) s.form) (docs_after (add_document i t) s) ≡ true
  unfolding conditions
  after_11 i t a =
      let (value, (there, end)) = unmet room (add_document i t) s a in
      conforming_11 w s x.form x.serials x.docs i t (ap is_there (definition_found i s.form once (not_past i s.form there)))

  pub conforming_after_simple : (c : Call) → edits_model c ≡ false → refusal room c s ≡ 0 → conforming s.version (form_after c s.form) (docs_after c s) ≡ true
  unfolding form_after conditions
  conforming_after_simple (create_definition n k) e a = after_1 n k
  conforming_after_simple (destroy_definition i) e a = after_2 i a
  conforming_after_simple (insert_element o p i q t) e a = absurd (false≢true (sym e))
  conforming_after_simple (remove_element o p) e a = absurd (false≢true (sym e))
  conforming_after_simple (change_quantifier o p q t) e a = absurd (false≢true (sym e))
  conforming_after_simple (convert_to_group o p n k) e a = absurd (false≢true (sym e))
  conforming_after_simple (flatten_group o p) e a = absurd (false≢true (sym e))
  conforming_after_simple (change_group_quantifier o p q t) e a = absurd (false≢true (sym e))
  conforming_after_simple (add_attribute o n k v) e a = after_9 o n k v a
  conforming_after_simple (destroy_attribute i) e a = after_10 i (attribute_at i s.form) refl (unmet room (destroy_attribute i) s a).0
  conforming_after_simple (add_document i t) e a = after_11 i t a
  conforming_after_simple (add_element k j i t) e a = conforming_checked (add_element k j i t) s (unmet room (add_element k j i t) s a).1.1.1.1.0
  conforming_after_simple (destroy_element k) e a = conforming_checked (destroy_element k) s (unmet room (destroy_element k) s a).1.0
  conforming_after_simple (set_attribute k i v) e a = conforming_checked (set_attribute k i v) s (unmet room (set_attribute k i v) s a).1.1.1.0
  conforming_after_simple (destroy_attribute_row k i) e a = conforming_checked (destroy_attribute_row k i) s (unmet room (destroy_attribute_row k i) s a).1.1.0
  conforming_after_simple (set_text k t) e a = conforming_16 w s x.form x.serials x.docs k t

  -- condition 3
  given_value_lem : (c : Call) → refusal room c s ≡ 0 → given_value w c ≡ true
  unfolding conditions
  given_value_lem (create_definition n k) a = refl
  given_value_lem (destroy_definition i) a = refl
  given_value_lem (insert_element o p i q t) a = not-false (is_value w t) (unmet room (insert_element o p i q t) s a).0
  given_value_lem (remove_element o p) a = refl
  given_value_lem (change_quantifier o p q t) a = not-false (is_value w t) (unmet room (change_quantifier o p q t) s a).0
  given_value_lem (convert_to_group o p n k) a = refl
  given_value_lem (flatten_group o p) a = refl
  given_value_lem (change_group_quantifier o p q t) a = not-false (is_value w t) (unmet room (change_group_quantifier o p q t) s a).0
  given_value_lem (add_attribute o n k v) a = not-false (is_value w v) (unmet room (add_attribute o n k v) s a).1.0
  given_value_lem (destroy_attribute i) a = refl
  given_value_lem (add_document i t) a = not-false (is_value w t) (unmet room (add_document i t) s a).0
  given_value_lem (add_element k j i t) a = not-false (is_value w t) (unmet room (add_element k j i t) s a).0
  given_value_lem (destroy_element k) a = refl
  given_value_lem (set_attribute k i v) a = not-false (is_value w v) (unmet room (set_attribute k i v) s a).0
  given_value_lem (destroy_attribute_row k i) a = refl
  given_value_lem (set_text k t) a = not-false (is_value w t) (unmet room (set_text k t) s a).0

  pub values_after : (c : Call) → refusal room c s ≡ 0 → every_row (λ r below. laid_row (value_width s.version) r) (after c s).docs ≡ true
  values_after c a = laid_after w c s x.form x.serials (given_value_lem c a) x.values
