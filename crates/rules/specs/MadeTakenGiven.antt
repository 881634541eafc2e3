-- 'What was made, taken and given', call by call: which lines the taking rule names, which value a line has after a
-- call, and below which rows a call makes which rows. Said of the form and the lines that stand, and of the version
-- where the rows made depend on it, apart from the plans of Change.antt.
use Rattle.std.specs.Prelude.{ℕ, ◌+◌, ◌≡◌, Bool, true, false, ◌&&◌, eqb}
use Rattle.std.proofs.Math.Option.{Option, none, some}
use mathlib.Core.List.{List, [], ◌∷◌, ◌++◌, Memᴰ}
use Rattle.rules.specs.declared.Quantifier.{Quantifier}
use Rattle.rules.specs.Bytes.{Bytes}
use Rattle.rules.specs.Model.{Members, done, el, group, names, skips}
use Rattle.rules.specs.Quantifiers.{gains, cuts}
use Rattle.rules.specs.Place.{Context, Found, spine}
use Rattle.rules.specs.Edit.{Edit, insert, remove, quantify, place_of}
use Rattle.rules.specs.Store.{Form, attribute, Row, Forest, bare, tree, members}
use Rattle.rules.specs.Decode.{quantifier_of, sort_of}
use Rattle.rules.specs.Conforming.{must_be_present}
use Rattle.rules.specs.Filling.{created_value, fill_each, fill_definition}
use Rattle.rules.specs.Lines.{Line, lines, is_text_row, element_named, element_among, attribute_named, element_with, children_of, serial_at}
use Rattle.rules.specs.Change.{Call, create_definition, destroy_definition, insert_element, remove_element, change_quantifier, convert_to_group, flatten_group}
use Rattle.rules.specs.Change.{change_group_quantifier, add_attribute, destroy_attribute, add_document, add_element, destroy_element, set_attribute}
use Rattle.rules.specs.Change.{destroy_attribute_row, set_text, definition_at, name_at_index, Owned, attribute_at, group_filling, new_rows, number}

-- ---- words
-- a line with this serial is there, and its row passes a test
abbrev pub HasLine : (Row → Bool) → List Line → ℕ → Type 0
HasLine test ls k = (l : Line) × Memᴰ l ls × (l.row.serial ≡ k) × (test l.row ≡ true)

-- the line stands right below a row that passes a test
abbrev pub StandsBelow : (Row → Bool) → List Line → Line → Type 0
StandsBelow above ls l = HasLine above ls l.parent

-- the line is the first of its parent's children that pass a test
abbrev pub IsFirst : (Row → Bool) → List Line → Line → Type 0
IsFirst test ls l = l.row.serial ≡ serial_at 0 (children_of test l.parent ls)

-- the place of an edit in the owner's model
abbrev pub found_in : Edit Bytes → ℕ → List ℕ → Form → Option (Found Bytes)
found_in e owner p form = place_of e p (members (definition_at owner form))

-- something is said of the place that an edit leads to
abbrev pub AtPlace : (Context Bytes → Type 0) → Option (Found Bytes) → Type 0
AtPlace P none = ⊥
AtPlace P (some f) = P f.context

-- of the element at the place, with its quantifier and name; no element, nothing holds
abbrev pub OfElement : (Quantifier → Bytes → Type 0) → Members Bytes → Type 0
OfElement P done = ⊥
OfElement P (el q x rest) = P q x
OfElement P (group q k ms rest) = ⊥

abbrev pub AtElement : (Context Bytes → Quantifier → Bytes → Type 0) → Option (Found Bytes) → Type 0
AtElement P none = ⊥
AtElement P (some f) = OfElement (P f.context) f.picked

-- of the group at the place, with its quantifier and members
abbrev pub OfGroup : (Quantifier → Members Bytes → Type 0) → Members Bytes → Type 0
OfGroup P done = ⊥
OfGroup P (el q x rest) = ⊥
OfGroup P (group q k ms rest) = P q ms

abbrev pub AtGroup : (Context Bytes → Quantifier → Members Bytes → Type 0) → Option (Found Bytes) → Type 0
AtGroup P none = ⊥
AtGroup P (some f) = OfGroup (P f.context) f.picked

-- of the attribute with an index, and its owner
abbrev pub OfAttribute : (Owned → Type 0) → Option Owned → Type 0
OfAttribute P none = ⊥
OfAttribute P (some o) = P o

-- ---- taken
-- 'Taking rule: 4, 5 (cut), 10, 13, 15 take the rows named there, elements with all below. No other takes any.'
-- 4: 'those children of instances': elements of that name right below an instance of the owner
abbrev pub IsRemoved : Bytes → Bytes → List Line → Line → Type 0
IsRemoved owner x ls l = (element_named x l.row ≡ true) × StandsBelow (element_named owner) ls l

-- 5: 'In a spine list: cut keeps each instance's first': all other such children go
abbrev pub IsCut : Bytes → Quantifier → List Line → Line → Context Bytes → Quantifier → Bytes → Type 0
IsCut owner new ls l c old x = (spine c ≡ true) × (cuts old new ≡ true) × IsRemoved owner x ls l × (IsFirst (element_named x) ls l → ⊥)

-- 10: that attribute's rows, below elements of its owner; 15: that attribute's row below the element with that serial
abbrev pub IsDropped : (Owned → Row → Bool) → List Line → Line → Owned → Type 0
IsDropped above ls l o = (attribute_named o.attribute.name l.row ≡ true) × StandsBelow (above o) ls l

-- the lines that a call names for taking; 13: the element with that serial
unfoldable pub NamedBy : Call → Form → List Line → Line → Type 0
NamedBy (create_definition n k) form ls l = ⊥
NamedBy (destroy_definition i) form ls l = ⊥
NamedBy (insert_element o p i q t) form ls l = ⊥
NamedBy (remove_element o p) form ls l = AtElement (λ c q x. IsRemoved (name_at_index o form) x ls l) (found_in remove o p form)
NamedBy (change_quantifier o p q t) form ls l = AtElement (IsCut (name_at_index o form) (quantifier_of q) ls l) (found_in (quantify (quantifier_of q)) o p form)
NamedBy (convert_to_group o p n k) form ls l = ⊥
NamedBy (flatten_group o p) form ls l = ⊥
NamedBy (change_group_quantifier o p q t) form ls l = ⊥
NamedBy (add_attribute o n k v) form ls l = ⊥
NamedBy (destroy_attribute a) form ls l = OfAttribute (IsDropped (λ o u. element_named o.owner.name u) ls l) (attribute_at a form)
NamedBy (add_document i t) form ls l = ⊥
NamedBy (add_element k j i t) form ls l = ⊥
NamedBy (destroy_element k) form ls l = element_with k l.row ≡ true
NamedBy (set_attribute k a v) form ls l = ⊥
NamedBy (destroy_attribute_row k a) form ls l = OfAttribute (IsDropped (λ o u. element_with k u) ls l) (attribute_at a form)
NamedBy (set_text k t) form ls l = ⊥

-- 'elements with all below': the line is named, or the line above it is taken
pub data IsTaken (Named : Line → Type 0) (ls : List Line) : Line → Type 0 where
  itself : (l : Line) → Named l → IsTaken Named ls l
  beneath : (u l : Line) → Memᴰ u ls → u.row.serial ≡ l.parent → IsTaken Named ls u → IsTaken Named ls l

-- ---- given
-- '14, and 16 at the text line, set a value. No other line changes.'
abbrev pub value_if : Bool → Bytes → Line → Bytes
value_if true v l = v
value_if false v l = l.row.value

-- the line is that attribute's row right below the element with serial k
abbrev pub is_row_of : ℕ → Option Owned → Line → Bool
is_row_of k none l = false
is_row_of k (some o) l = eqb l.parent k && attribute_named o.attribute.name l.row

-- the line is the text of the element with serial k
abbrev pub is_text_of : ℕ → Line → Bool
is_text_of k l = eqb l.parent k && is_text_row l.row

-- the value that a line has after a call
unfoldable pub value_after : Call → Form → Line → Bytes
value_after (create_definition n k) form l = l.row.value
value_after (destroy_definition i) form l = l.row.value
value_after (insert_element o p i q t) form l = l.row.value
value_after (remove_element o p) form l = l.row.value
value_after (change_quantifier o p q t) form l = l.row.value
value_after (convert_to_group o p n k) form l = l.row.value
value_after (flatten_group o p) form l = l.row.value
value_after (change_group_quantifier o p q t) form l = l.row.value
value_after (add_attribute o n k v) form l = l.row.value
value_after (destroy_attribute a) form l = l.row.value
value_after (add_document i t) form l = l.row.value
value_after (add_element k j i t) form l = l.row.value
value_after (destroy_element k) form l = l.row.value
value_after (set_attribute k a v) form l = value_if (is_row_of k (attribute_at a form) l) v l
value_after (destroy_attribute_row k a) form l = l.row.value
value_after (set_text k t) form l = value_if (is_text_of k l) t l

-- ---- made
-- 'The rows it makes (3, gains, 9, 11, 12, 14 where absent)': the rows below which a call makes rows, by serial; the
-- documents stand below 0
-- 3: 'A NONE or PLUS member in a spine list: each instance gets one filling'
-- 5 and 8: 'In a spine list: gain puts a filling where none stands'; 8: 'an instance without a child of the group'
-- 9: 'REQUIRED adds a row to each instance'
-- 11: a document; 12: below the element with that serial; 14: below it, where it has no row of the attribute
unfoldable pub MakesBelow : Call → ℕ → Form → List Line → ℕ → Type 0
MakesBelow (create_definition n k) version form ls u = ⊥
MakesBelow (destroy_definition i) version form ls u = ⊥
MakesBelow (insert_element o p i q t) version form ls u =
    AtPlace (λ c. (spine c ≡ true) × (skips (quantifier_of q) ≡ false)) (found_in (insert (quantifier_of q) (name_at_index i form)) o p form) × HasLine (element_named (name_at_index o form)) ls u
MakesBelow (remove_element o p) version form ls u = ⊥
MakesBelow (change_quantifier o p q t) version form ls u =
    AtElement (λ c old x. (spine c ≡ true) × (gains old (quantifier_of q) ≡ true) × (children_of (element_named x) u ls ≡ [])) (found_in (quantify (quantifier_of q)) o p form)
    × HasLine (element_named (name_at_index o form)) ls u
MakesBelow (convert_to_group o p n k) version form ls u = ⊥
MakesBelow (flatten_group o p) version form ls u = ⊥
MakesBelow (change_group_quantifier o p q t) version form ls u =
    AtGroup (λ c old ms. (spine c ≡ true) × (gains old (quantifier_of q) ≡ true) × (children_of (element_among (names ms)) u ls ≡ [])) (found_in (quantify (quantifier_of q)) o p form)
    × HasLine (element_named (name_at_index o form)) ls u
MakesBelow (add_attribute o n k v) version form ls u = (must_be_present version (sort_of k) ≡ true) × HasLine (element_named (name_at_index o form)) ls u
MakesBelow (destroy_attribute a) version form ls u = ⊥
MakesBelow (add_document i t) version form ls u = u ≡ 0
MakesBelow (add_element k j i t) version form ls u = u ≡ k
MakesBelow (destroy_element k) version form ls u = ⊥
MakesBelow (set_attribute k a v) version form ls u = OfAttribute (λ o. children_of (attribute_named o.attribute.name) k ls ≡ []) (attribute_at a form) × (u ≡ k)
MakesBelow (destroy_attribute_row k a) version form ls u = ⊥
MakesBelow (set_text k t) version form ls u = ⊥

-- one row of an attribute, without a serial yet
abbrev pub one_attribute : Bytes → Bytes → Forest Row
one_attribute n v = tree (record { serial = 0; sort = attribute; name = n; value = v }) bare bare

-- 5: a filling of the element at the place; 8: 'the group's filling under its new quantifier'
abbrev pub filling_of : ℕ → Form → Bytes → Quantifier → Members Bytes → Forest Row
filling_of version form t new done = bare
filling_of version form t new (el q x rest) = fill_definition version form t x
filling_of version form t new (group q k ms rest) = fill_each (λ n. fill_definition version form t n) (group_filling new k ms)

-- the same at the place found
abbrev pub filling_at : ℕ → Form → Bytes → Quantifier → Option (Found Bytes) → Forest Row
filling_at version form t new none = bare
filling_at version form t new (some f) = filling_of version form t new f.picked

-- 14: the attribute's row with the value given
abbrev pub set_row : Bytes → Option Owned → Forest Row
set_row v none = bare
set_row v (some o) = one_attribute o.attribute.name v

-- the rows that a call makes below each of these, without serials yet: fillings with the call's text; 9: the
-- attribute's row with its fill; 14: with the value given
unfoldable pub rows_made : Call → ℕ → Form → Forest Row
rows_made (create_definition n k) version form = bare
rows_made (destroy_definition i) version form = bare
rows_made (insert_element o p i q t) version form = fill_definition version form t (name_at_index i form)
rows_made (remove_element o p) version form = bare
rows_made (change_quantifier o p q t) version form = filling_at version form t (quantifier_of q) (found_in (quantify (quantifier_of q)) o p form)
rows_made (convert_to_group o p n k) version form = bare
rows_made (flatten_group o p) version form = bare
rows_made (change_group_quantifier o p q t) version form = filling_at version form t (quantifier_of q) (found_in (quantify (quantifier_of q)) o p form)
rows_made (add_attribute o n k v) version form = one_attribute n (created_value (sort_of k) v)
rows_made (destroy_attribute a) version form = bare
rows_made (add_document i t) version form = fill_definition version form t (name_at_index i form)
rows_made (add_element k j i t) version form = fill_definition version form t (name_at_index i form)
rows_made (destroy_element k) version form = bare
rows_made (set_attribute k a v) version form = set_row v (attribute_at a form)
rows_made (destroy_attribute_row k a) version form = bare
rows_made (set_text k t) version form = bare

-- such rows below each of the rows with these serials, each row 'with the next serial, which then rises by 1'
unfoldable pub lines_made : Forest Row → ℕ → List ℕ → List Line
lines_made w n [] = []
lines_made w n (u ∷ us) = lines u (number n w) ++ lines_made w (n + new_rows w) us
