-- The refusal table: of each change the conditions that apply, in the
-- order of their numbers. The first that holds is given.
-- Each may rely on the earlier ones not holding. That every call asks
-- them in this order is proved, as Lowest.antt says it.
use Rattle.std.specs.Prelude.{ℕ, zero, suc, Bool, true, false, ◌&&◌, ◌||◌, not, List, [], ◌∷◌, ◌++◌, map, eqb, ltb, length}
use Rattle.std.proofs.Math.Option.{Option, none, some}
use Rattle.rules.specs.declared.Quantifier.{Quantifier}
use Rattle.rules.specs.Bytes.{Bytes, same, bytes, any, is_none}
use Rattle.rules.specs.Model.{Members, done, el, group, names, skips, member}
use Rattle.rules.specs.Quantifiers.{gains}
use Rattle.rules.specs.Place.{Context, Found}
use Rattle.rules.specs.Edit.{Edit, insert, remove, quantify, convert, flatten, place_of, first_members, has_members, is_one, insert_off, remove_last}
use Rattle.rules.specs.Edit.{remove_unmatched, quantify_off, quantify_group_off, group_unlike}
use Rattle.rules.specs.Store.{Content, empty, pcdata, complex, Definition, Row, Store, members, heads}
use Rattle.rules.specs.Layout.{value_width, flat, encode}
use Rattle.rules.specs.Decode.{quantifier_of, group_of}
use Rattle.rules.specs.WellFormed.{given_name, is_value, highest_number, within_ceilings, lookup, known, reaches_in, attribute_name}
use Rattle.rules.specs.Conforming.{conforming}
use Rattle.rules.specs.Lines.{Line, lines, is_element_row, element_named, attribute_named, element_with, find_row, children_of}
use Rattle.rules.specs.Change.{Call, create_definition, destroy_definition, insert_element, remove_element, change_quantifier, convert_to_group, flatten_group}
use Rattle.rules.specs.Change.{change_group_quantifier, add_attribute, destroy_attribute, add_document, add_element, destroy_element, set_attribute}
use Rattle.rules.specs.Change.{destroy_attribute_row, set_text, definition_at, name_at_index, Owned, attribute_at, after}

-- a number of the table, and whether its condition holds
pub record Condition : Type 0 where
  pub number : ℕ
  pub holds : Bool

infix 68 ◌if◌
abbrev pub ◌if◌ : ℕ → Bool → Condition
n if b = record { number = n; holds = b }

-- 0: none holds
abbrev pub first : List Condition → ℕ
first [] = 0
first (c ∷ cs) = elim c.holds [ true ↦ c.number | false ↦ first cs ]

-- ---- words of the table
-- no entry of a table has the index
abbrev pub past_end : {A : Type 0} → ℕ → List A → Bool
past_end i xs = not (ltb i (length xs))

abbrev pub rows_of : Store → List Line
rows_of s = lines 0 s.docs

-- row 3: a text or value given that is none
abbrev pub bad_text : Store → Bytes → Bool
bad_text s v = not (is_value (value_width s.version) v)

-- row 13, 'an instance exists': an element row of the definition
abbrev pub instance_exists : Bytes → Store → Bool
instance_exists n s = any (λ (l : Line). element_named n l.row) (rows_of s)

-- row 7, 'serial absent or not an element'
abbrev pub no_element : ℕ → Store → Bool
no_element k s = not (any (λ (l : Line). element_with k l.row) (rows_of s))

-- 6: 'where the serial is an element, another definition's attribute'
abbrev pub is_other : Option Owned → Option Row → Bool
is_other none r = true
is_other (some o) none = false
is_other (some o) (some r) = not (same o.owner.name r.name)

abbrev pub unknown_attribute : ℕ → ℕ → Store → Bool
unknown_attribute k a s = is_other (attribute_at a s.form) (find_row (element_with k) (rows_of s))

abbrev pub is_absent : ℕ → List Line → Option Owned → Bool
is_absent k ls none = true
is_absent k ls (some o) = is_none (children_of (attribute_named o.attribute.name) k ls)

abbrev pub is_pcdata : Option Definition → Bool
is_pcdata none = false
is_pcdata (some d) = elim d.content [ empty ↦ false | pcdata ↦ true | complex ms ↦ false ]

abbrev pub pcdata_element : ℕ → Store → Bool
pcdata_element k s = elim (find_row (element_with k) (rows_of s)) [ none ↦ false | some r ↦ is_pcdata (lookup r.name s.form) ]

abbrev pub is_complex : Content → Bool
is_complex empty = false
is_complex pcdata = false
is_complex (complex ms) = true

-- ---- conditions at a place
abbrev pub found_at : Edit Bytes → ℕ → List ℕ → Store → Option (Found Bytes)
found_at e o p s = place_of e p (members (definition_at o s.form))

-- a condition on what is found there
abbrev pub at_place : (Context Bytes → Members Bytes → Bool) → Option (Found Bytes) → Bool
at_place f none = false
at_place f (some x) = f x.context x.picked

abbrev pub no_place : Option (Found Bytes) → Bool
no_place none = true
no_place (some x) = false

-- a test of the quantifier of the element, or of the group, picked; `other` where another is picked
abbrev pub on_element : Bool → (Quantifier → Bool) → Members Bytes → Bool
on_element other f done = other
on_element other f (el q x rest) = f q
on_element other f (group q k ms rest) = other

abbrev pub on_group : Bool → (Quantifier → Bool) → Members Bytes → Bool
on_group other f done = other
on_group other f (el q x rest) = other
on_group other f (group q k ms rest) = f q

-- 8: absent, or of the wrong sort
abbrev pub no_element_at : Option (Found Bytes) → Bool
no_element_at none = true
no_element_at (some x) = on_element true (λ q. false) x.picked

abbrev pub no_group_at : Option (Found Bytes) → Bool
no_group_at none = true
no_group_at (some x) = on_group true (λ q. false) x.picked

-- 12 and 13 in 5: to the quantifier `new`, the element picked gains; it is not relaxed off the spine
abbrev pub gain_at : Quantifier → Option (Found Bytes) → Bool
gain_at new found = at_place (λ c x. on_element false (λ old. gains old new) x) found

abbrev pub off_spine_at : Quantifier → Option (Found Bytes) → Bool
off_spine_at new found = at_place (λ c x. on_element false (λ old. quantify_off c old new) x) found

-- 12 and 13 in 8: the group picked gains; it is not relaxed off the spine, or cut
abbrev pub group_gain_at : Quantifier → Option (Found Bytes) → Bool
group_gain_at new found = at_place (λ c x. on_group false (λ old. gains old new) x) found

abbrev pub group_off_spine_at : Quantifier → Option (Found Bytes) → Bool
group_off_spine_at new found = at_place (λ c x. on_group false (λ old. quantify_group_off c old new) x) found

-- 14 in 4, and 15 in 4, of the members after the picked one
abbrev pub tail_of : Members Bytes → Members Bytes
tail_of done = done
tail_of (el q x rest) = rest
tail_of (group q k ms rest) = rest

-- 14 in 7
abbrev pub flatten_unlike : Context Bytes → Members Bytes → Bool
flatten_unlike c done = false
flatten_unlike c (el q x rest) = false
flatten_unlike c (group q k ms rest) = not (is_one q) || group_unlike c k ms

-- 12 in 9
abbrev pub wrong_default : ℕ → Bytes → Bool
wrong_default zero v = not (is_none v)
wrong_default (suc zero) v = is_none v
wrong_default (suc (suc k)) v = false

-- ---- rows 2 to 15
unfoldable pub conditions : Call → Store → List Condition
conditions (create_definition n k) s =
    2 if not (given_name n)
    ∷ 4 if ltb 2 k
    ∷ 5 if known s.form n
    ∷ []
conditions (destroy_definition i) s =
    let n : Bytes = name_at_index i s.form in
    6 if past_end i s.form
    ∷ 10 if (any (λ (d : Definition). member bytes n (names (members d))) s.form || any (element_named n) (heads s.docs))
    ∷ []
conditions (insert_element o p i q t) s =
    let found : Option (Found Bytes) = found_at (insert (quantifier_of q) (name_at_index i s.form)) o p s in
    let owner : Definition = definition_at o s.form in
    let n : Bytes = name_at_index i s.form in
    3 if bad_text s t
    ∷ 4 if ltb 3 q
    ∷ 6 if (past_end o s.form || past_end i s.form)
    ∷ 8 if no_place found
    ∷ 9 if not (is_complex owner.content)
    ∷ 10 if member bytes n (names (members owner))
    ∷ 11 if (same n owner.name || reaches_in s.form n owner.name)
    ∷ 12 if (not (skips (quantifier_of q)) && is_none t)
    ∷ 13 if (instance_exists owner.name s && at_place (λ c x. insert_off c (quantifier_of q)) found)
    ∷ []
conditions (remove_element o p) s =
    let found : Option (Found Bytes) = found_at remove o p s in
    6 if past_end o s.form
    ∷ 8 if no_element_at found
    ∷ 14 if at_place (λ c x. remove_last c (tail_of x)) found
    ∷ 15 if (instance_exists (name_at_index o s.form) s && at_place (λ c x. remove_unmatched c (tail_of x)) found)
    ∷ []
conditions (change_quantifier o p q t) s =
    let found : Option (Found Bytes) = found_at (quantify (quantifier_of q)) o p s in
    3 if bad_text s t
    ∷ 4 if ltb 3 q
    ∷ 6 if past_end o s.form
    ∷ 8 if no_element_at found
    ∷ 12 if (gain_at (quantifier_of q) found && is_none t)
    ∷ 13 if (instance_exists (name_at_index o s.form) s && off_spine_at (quantifier_of q) found)
    ∷ []
conditions (convert_to_group o p n k) s =
    let found : Option (Found Bytes) = found_at (convert (group_of k) n) o p s in
    4 if (not (eqb k 1 || eqb k 2))
    ∷ 6 if past_end o s.form
    ∷ 8 if (no_place found || at_place (λ c x. not (has_members n x)) found)
    ∷ 14 if at_place (λ c x. group_unlike c (group_of k) (first_members n x)) found
    ∷ []
conditions (flatten_group o p) s =
    let found : Option (Found Bytes) = found_at flatten o p s in
    6 if past_end o s.form
    ∷ 8 if no_group_at found
    ∷ 14 if at_place flatten_unlike found
    ∷ []
conditions (change_group_quantifier o p q t) s =
    let found : Option (Found Bytes) = found_at (quantify (quantifier_of q)) o p s in
    3 if bad_text s t
    ∷ 4 if ltb 3 q
    ∷ 6 if past_end o s.form
    ∷ 8 if no_group_at found
    ∷ 12 if (group_gain_at (quantifier_of q) found && is_none t)
    ∷ 13 if (instance_exists (name_at_index o s.form) s && group_off_spine_at (quantifier_of q) found)
    ∷ []
conditions (add_attribute o n k v) s =
    2 if not (given_name n)
    ∷ 3 if bad_text s v
    ∷ 4 if ltb 2 k
    ∷ 5 if member bytes n (map attribute_name (definition_at o s.form).attributes)
    ∷ 6 if past_end o s.form
    ∷ 12 if wrong_default k v
    ∷ []
conditions (destroy_attribute a) s = 6 if is_other (attribute_at a s.form) none ∷ []
conditions (add_document i t) s =
    3 if bad_text s t
    ∷ 6 if past_end i s.form
    ∷ []
conditions (add_element k j i t) s =
    3 if bad_text s t
    ∷ 6 if past_end i s.form
    ∷ 7 if no_element k s
    ∷ 8 if ltb (length (children_of is_element_row k (rows_of s))) j
    ∷ 15 if not (conforming s.version s.form (after (add_element k j i t) s).docs)
    ∷ []
conditions (destroy_element k) s =
    7 if no_element k s
    ∷ 15 if not (conforming s.version s.form (after (destroy_element k) s).docs)
    ∷ []
conditions (set_attribute k a v) s =
    3 if bad_text s v
    ∷ 6 if unknown_attribute k a s
    ∷ 7 if no_element k s
    ∷ 15 if not (conforming s.version s.form (after (set_attribute k a v) s).docs)
    ∷ []
conditions (destroy_attribute_row k a) s =
    6 if unknown_attribute k a s
    ∷ 7 if (no_element k s || is_absent k (rows_of s) (attribute_at a s.form))
    ∷ 15 if not (conforming s.version s.form (after (destroy_attribute_row k a) s).docs)
    ∷ []
conditions (set_text k t) s =
    3 if bad_text s t
    ∷ 7 if no_element k s
    ∷ 9 if not (pcdata_element k s)
    ∷ []

-- ---- rows 16 to 18, of the store that is left and the room in the output buffer
abbrev pub limits : ℕ → Store → List Condition
limits room s =
    16 if not (within_ceilings (flat s))
    ∷ 17 if ltb highest_number s.next
    ∷ 18 if ltb room (length (encode s))
    ∷ []

-- 'The lowest number that applies is given, never another': the first condition or limit that holds, 0 if none does
unfoldable pub refusal : ℕ → Call → Store → ℕ
refusal room c s = first (conditions c s ++ limits room (after c s))
