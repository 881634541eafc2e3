-- AN ACCEPTED CALL MAKES NO RESERVED NAME (paper 02, W1).
use Prim.Native.Nat.{ℕ, zero, suc}
use mathlib.Core.Path.{◌≡◌, refl, ◌∙◌}
use mathlib.Core.Bool.{Bool, true, false, not}
use mathlib.Core.Option.{Option, none, some}
use mathlib.Core.List.{List, [], ◌∷◌, ◌++◌}
use Rattle.rules.specs.Bytes.{Bytes, all}
use Rattle.rules.specs.Store.{Attribute, Definition, Form, Store}
use Rattle.rules.specs.Layout.{index_of}
use Rattle.rules.specs.WellFormed.{is_name, reserved_name, given_name, unreserved, none_reserved}
use Rattle.rules.specs.Change.{Call, create_definition, destroy_definition, insert_element, remove_element, change_quantifier, convert_to_group, flatten_group}
use Rattle.rules.specs.Change.{change_group_quantifier, add_attribute, destroy_attribute, add_document, add_element, destroy_element, set_attribute}
use Rattle.rules.specs.Change.{destroy_attribute_row, set_text, Owned, attribute_at, update, without, with_attributes, lacking, drop_owned, new_attribute, form_after}
use Rattle.rules.specs.Refusal.{conditions, refusal}
use Rattle.rules.proofs.Words.{and_both, and_split}
use Rattle.rules.proofs.BooleanLaws.{all_append, all_of, all_in}
use Rattle.change_laws.proofs.Conditions.{unmet}
use Rattle.change_laws.proofs.Replacing.{without_in}
use Rattle.change_laws.proofs.WellFormedAfter.{lacking_in}
use borrow.Author.Tests.{not-false}

abbrev free_attribute : Attribute → Bool
free_attribute a = not (reserved_name a.name)

-- ---- lists of which each entry passes
all_last : {A : Type 0} (p : A → Bool) (xs : List A) (y : A) → all p xs ≡ true → p y ≡ true → all p (xs ++ y ∷ []) ≡ true
all_last p xs y h e = all_append p xs (y ∷ []) ∙ and_both h (and_both e refl)

all_without : {A : Type 0} (p : A → Bool) (i : ℕ) (xs : List A) → all p xs ≡ true → all p (without i xs) ≡ true
all_without p i xs h = all_of p (without i xs) (λ x m. all_in p x xs h (without_in i xs m))

all_lacking : (n : Bytes) (table : List Attribute) → all free_attribute table ≡ true → all free_attribute (lacking n table) ≡ true
all_lacking n table h = all_of free_attribute (lacking n table) (λ a m. all_in free_attribute a table h (lacking_in n table m))

-- ---- one definition changed
all_update : (i : ℕ) (u : Definition → Definition) (form : Form) → ((d : Definition) → unreserved d ≡ true → unreserved (u d) ≡ true)
    → all unreserved form ≡ true → all unreserved (update i u form) ≡ true
all_update i u [] f h = h
all_update zero u (d ∷ form) f h = let (a, b) = and_split (unreserved d) (all unreserved form) h in and_both (f d a) b
all_update (suc i) u (d ∷ form) f h =
    let (a, b) = and_split (unreserved d) (all unreserved form) h in
    and_both a (all_update i u form f b)

table_free : (t : List Attribute → List Attribute) → ((table : List Attribute) → all free_attribute table ≡ true → all free_attribute (t table) ≡ true)
    → (d : Definition) → unreserved d ≡ true → unreserved (with_attributes t d) ≡ true
table_free t f d h = let (a, b) = and_split (not (reserved_name d.name)) (all free_attribute d.attributes) h in and_both a (f d.attributes b)

owned_free : (o : Option Owned) (form : Form) → all unreserved form ≡ true → all unreserved (drop_owned o form) ≡ true
owned_free none form h = h
owned_free (some o) form h = all_update (index_of o.owner.name form) _ form (table_free (lacking o.attribute.name) (all_lacking o.attribute.name)) h

-- ---- the calls
given_free : (n : Bytes) → not (given_name n) ≡ false → not (reserved_name n) ≡ true
given_free n e = (and_split (is_name n) (not (reserved_name n)) (not-false (given_name n) e)).1

pub none_reserved_after : (room : ℕ) (c : Call) (s : Store) → refusal room c s ≡ 0 → none_reserved s.form ≡ true → none_reserved (form_after c s.form) ≡ true
unfolding form_after conditions none_reserved
none_reserved_after room (create_definition n k) s a h =
    all_last unreserved s.form _ h (and_both (given_free n (unmet room (create_definition n k) s a).0) refl)
none_reserved_after room (destroy_definition i) s a h = all_without unreserved i s.form h
none_reserved_after room (insert_element o p i q t) s a h = all_update o _ s.form (λ d e. e) h
none_reserved_after room (remove_element o p) s a h = all_update o _ s.form (λ d e. e) h
none_reserved_after room (change_quantifier o p q t) s a h = all_update o _ s.form (λ d e. e) h
none_reserved_after room (convert_to_group o p n k) s a h = all_update o _ s.form (λ d e. e) h
none_reserved_after room (flatten_group o p) s a h = all_update o _ s.form (λ d e. e) h
none_reserved_after room (change_group_quantifier o p q t) s a h = all_update o _ s.form (λ d e. e) h
none_reserved_after room (add_attribute o n k v) s a h =
    all_update o _ s.form
    (table_free (λ table. table ++ new_attribute n k v ∷ [])
    (λ table e. all_last free_attribute table (new_attribute n k v) e (given_free n (unmet room (add_attribute o n k v) s a).0)))
    h
none_reserved_after room (destroy_attribute i) s a h = owned_free (attribute_at i s.form) s.form h
none_reserved_after room (add_document i t) s a h = h
none_reserved_after room (add_element k j i t) s a h = h
none_reserved_after room (destroy_element k) s a h = h
none_reserved_after room (set_attribute k i v) s a h = h
none_reserved_after room (destroy_attribute_row k i) s a h = h
none_reserved_after room (set_text k t) s a h = h
