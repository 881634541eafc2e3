-- 'The sixteen changes': what each does to the form, and to the rows.
use Rattle.std.specs.Prelude.{ℕ, zero, suc, ◌+◌, ◌-◌, Bool, true, false, ◌&&◌, ◌||◌, not, List, [], ◌∷◌, ◌++◌, map, eqb, length}
use Rattle.std.proofs.Math.Option.{Option, none, some}
use Rattle.rules.specs.declared.Quantifier.{Quantifier}
use Rattle.rules.specs.declared.GroupKind.{GroupKind}
use Rattle.rules.specs.Bytes.{Bytes, same, bytes, is_none}
use Rattle.rules.specs.Model.{Members, done, el, group, names, skips, nothing, unless, filling, member}
use Rattle.rules.specs.Quantifiers.{gains, cuts}
use Rattle.rules.specs.Place.{Context, Found, spine, before_place}
use Rattle.rules.specs.Edit.{Edit, insert, remove, quantify, convert, flatten, place_of, model_after}
use Rattle.rules.specs.Store.{Content, empty, pcdata, complex, Attribute, Definition, Form, attribute, Row, Forest, bare, tree, Store, members, ◌⧺◌}
use Rattle.rules.specs.Layout.{index_of}
use Rattle.rules.specs.Decode.{quantifier_of, group_of, content_of, sort_of}
use Rattle.rules.specs.WellFormed.{attribute_name}
use Rattle.rules.specs.Conforming.{is_element, is_attribute, must_be_present}
use Rattle.rules.specs.Filling.{attribute_row, fill_each, fill_definition}
use Rattle.rules.specs.Lines.{Line, lines, ground, is_ground, is_element_row, is_text_row, element_named, element_among, attribute_named, element_with, children_of, serial_at}

-- the calls, in the paper's order, with their arguments in the order of the public functions
pub data Call : Type 0 where
  create_definition : (name : Bytes) (kind : ℕ) → Call
  destroy_definition : (definition : ℕ) → Call
  insert_element : (owner : ℕ) (place : List ℕ) (definition quantifier : ℕ) (text : Bytes) → Call
  remove_element : (owner : ℕ) (place : List ℕ) → Call
  change_quantifier : (owner : ℕ) (place : List ℕ) (quantifier : ℕ) (text : Bytes) → Call
  convert_to_group : (owner : ℕ) (place : List ℕ) (count sort : ℕ) → Call
  flatten_group : (owner : ℕ) (place : List ℕ) → Call
  change_group_quantifier : (owner : ℕ) (place : List ℕ) (quantifier : ℕ) (text : Bytes) → Call
  add_attribute : (owner : ℕ) (name : Bytes) (sort : ℕ) (value : Bytes) → Call
  destroy_attribute : (attribute : ℕ) → Call
  add_document : (definition : ℕ) (text : Bytes) → Call
  add_element : (parent child definition : ℕ) (text : Bytes) → Call
  destroy_element : (element : ℕ) → Call
  set_attribute : (element attribute : ℕ) (value : Bytes) → Call
  destroy_attribute_row : (element attribute : ℕ) → Call
  set_text : (element : ℕ) (text : Bytes) → Call

-- ---- definitions and attributes by index
abbrev pub no_definition : Definition
no_definition = record { name = []; content = empty; attributes = [] }

abbrev pub definition_at : ℕ → Form → Definition
definition_at i [] = no_definition
definition_at zero (d ∷ ds) = d
definition_at (suc i) (d ∷ ds) = definition_at i ds

abbrev pub name_at_index : ℕ → Form → Bytes
name_at_index i form = (definition_at i form).name

-- an attribute with its owner
pub record Owned : Type 0 where
  pub owner : Definition
  pub attribute : Attribute

abbrev pub entry_at : ℕ → List Attribute → Option Attribute
entry_at i [] = none
entry_at zero (a ∷ table) = some a
entry_at (suc i) (a ∷ table) = entry_at i table

unfoldable pub attribute_at : ℕ → Form → Option Owned
attribute_at i [] = none
attribute_at i (d ∷ ds) = elim (entry_at i d.attributes) [ some a ↦ some (record { owner = d; attribute = a }) | none ↦ attribute_at (i - length d.attributes) ds ]

-- ---- what a change does to the form
abbrev pub update : ℕ → (Definition → Definition) → Form → Form
update i u [] = []
update zero u (d ∷ ds) = u d ∷ ds
update (suc i) u (d ∷ ds) = d ∷ update i u ds

abbrev pub without : {A : Type 0} → ℕ → List A → List A
without i [] = []
without zero (x ∷ xs) = xs
without (suc i) (x ∷ xs) = x ∷ without i xs

abbrev pub in_content : (Members Bytes → Members Bytes) → Content → Content
in_content e empty = empty
in_content e pcdata = pcdata
in_content e (complex ms) = complex (e ms)

abbrev pub in_model : (Members Bytes → Members Bytes) → Definition → Definition
in_model e d = record { name = d.name; content = in_content e d.content; attributes = d.attributes }

abbrev pub with_attributes : (List Attribute → List Attribute) → Definition → Definition
with_attributes e d = record { name = d.name; content = d.content; attributes = e d.attributes }

-- a model with an edit made at a place
abbrev pub edit_found : Edit Bytes → Members Bytes → Option (Found Bytes) → Members Bytes
edit_found e ms none = ms
edit_found e ms (some f) = model_after e f

abbrev pub edit_at : Edit Bytes → List ℕ → Members Bytes → Members Bytes
edit_at e p ms = edit_found e ms (place_of e p ms)

-- changes 3 to 8 are edits of the owner's model
abbrev pub edit_model : ℕ → List ℕ → Edit Bytes → Form → Form
edit_model owner p e form = update owner (in_model (edit_at e p)) form

abbrev pub lacking : Bytes → List Attribute → List Attribute
lacking n [] = []
lacking n (a ∷ table) = elim (same n a.name) [ true ↦ table | false ↦ a ∷ lacking n table ]

abbrev pub drop_owned : Option Owned → Form → Form
drop_owned none form = form
drop_owned (some o) form = update (index_of o.owner.name form) (with_attributes (lacking o.attribute.name)) form

abbrev pub new_attribute : Bytes → ℕ → Bytes → Attribute
new_attribute n k v = record { name = n; sort = sort_of k; value = v }

unfoldable pub form_after : Call → Form → Form
form_after (create_definition n k) form = form ++ record { name = n; content = content_of k done; attributes = [] } ∷ []
form_after (destroy_definition i) form = without i form
form_after (insert_element o p i q t) form = edit_model o p (insert (quantifier_of q) (name_at_index i form)) form
form_after (remove_element o p) form = edit_model o p remove form
form_after (change_quantifier o p q t) form = edit_model o p (quantify (quantifier_of q)) form
form_after (convert_to_group o p n k) form = edit_model o p (convert (group_of k) n) form
form_after (flatten_group o p) form = edit_model o p flatten form
form_after (change_group_quantifier o p q t) form = edit_model o p (quantify (quantifier_of q)) form
form_after (add_attribute o n k v) form = update o (with_attributes (λ table. table ++ new_attribute n k v ∷ [])) form
form_after (destroy_attribute a) form = drop_owned (attribute_at a form) form
form_after (add_document i t) form = form
form_after (add_element k j i t) form = form
form_after (destroy_element k) form = form
form_after (set_attribute k a v) form = form
form_after (destroy_attribute_row k a) form = form
form_after (set_text k t) form = form

-- ---- what a change does to the rows, as a plan read off the version, the form and the lines
-- takes: the row, below its parent, is taken with all below it ('taking rule')
-- fills, later, filling: below each row that `fills`, the rows `filling` come
-- before the first row that is `later`, else last; the
--   row `ground` has the documents below it
-- set, value: the row with that serial gets that value
-- Serial 0 is no row's, and stands for four things:
--   in `filling`, and in the documents until `number`: a new row, which has no serial yet
--   in `ground`, and as a line's parent: what is above the documents, where change 11 fills
--   in `set`: no row gets a value (new rows come after values are set)
--   from `serial_at`: there is no such row, so none is that one
pub record Plan : Type 0 where
  pub takes : Row → Row → Bool
  pub fills : Row → Bool
  pub later : Row → Row → Bool
  pub filling : Forest Row
  pub set : ℕ
  pub value : Bytes

abbrev pub never : Row → Bool
never r = false

abbrev pub neither : Row → Row → Bool
neither u r = false

abbrev pub keeping : Plan
keeping = record { takes = neither; fills = never; later = neither; filling = bare; set = 0; value = [] }

abbrev pub taking : (Row → Row → Bool) → Plan
taking t = record { takes = t; fills = never; later = neither; filling = bare; set = 0; value = [] }

abbrev pub making : (Row → Bool) → (Row → Row → Bool) → Forest Row → Plan
making f l w = record { takes = neither; fills = f; later = l; filling = w; set = 0; value = [] }

abbrev pub setting : ℕ → Bytes → Plan
setting k v = record { takes = neither; fills = never; later = neither; filling = bare; set = k; value = v }

-- 'New rows stand after the children belonging to earlier particles of the model'
abbrev pub later_than : List Bytes → Row → Row → Bool
later_than ns u r = is_element r.sort && not (member bytes r.name ns)

-- 3, in a spine list: each instance gets one filling
abbrev pub insert_plan : ℕ → Form → Bytes → Bytes → Quantifier → Bytes → Option (Found Bytes) → Plan
insert_plan version form owner txt q n none = keeping
insert_plan version form owner txt q n (some f) =
    making (λ r. (not (skips q) && spine f.context) && element_named owner r) (later_than (before_place f.context)) (fill_definition version form txt n)

-- 4: those children of instances
abbrev pub remove_plan : Bytes → Members Bytes → Plan
remove_plan owner done = keeping
remove_plan owner (el q x rest) = taking (λ u r. element_named owner u && element_named x r)
remove_plan owner (group q k ms rest) = keeping

-- the names that a group fills with under a quantifier
abbrev pub group_filling : Quantifier → GroupKind → Members Bytes → List Bytes
group_filling q k ms = unless (skips q || nothing k ms) (filling k ms)

-- the first child named x of the row u
abbrev pub first_child : Bytes → Row → List Line → ℕ
first_child x u ls = serial_at 0 (children_of (element_named x) u.serial ls)

-- the row u has no child that passes the test
abbrev pub lacks : (Row → Bool) → Row → List Line → Bool
lacks p u ls = is_none (children_of p u.serial ls)

-- 5 and 8, in a spine list. A cut keeps each instance's first; a gain puts a filling where none stands.
abbrev pub quantify_plan : ℕ → Form → List Line → Bytes → Bytes → Quantifier → Context Bytes → Members Bytes → Plan
quantify_plan version form ls owner txt new c done = keeping
quantify_plan version form ls owner txt new c (el old x rest) =
    record {
      takes = λ u r. (spine c && cuts old new) && (element_named owner u && (element_named x r && not (eqb r.serial (first_child x u ls))));
      fills = λ r. (spine c && gains old new) && (element_named owner r && lacks (element_named x) r ls);
      later = later_than (before_place c);
      filling = fill_definition version form txt x;
      set = 0;
      value = [];
    }
quantify_plan version form ls owner txt new c (group old k ms rest) =
    making (λ r. (spine c && gains old new) && (element_named owner r && lacks (element_among (names ms)) r ls)) (later_than (before_place c))
    (fill_each (λ n. fill_definition version form txt n) (group_filling new k ms))

abbrev pub picked_plan : (Context Bytes → Members Bytes → Plan) → Option (Found Bytes) → Plan
picked_plan f none = keeping
picked_plan f (some x) = f x.context x.picked

-- the names before n
abbrev pub names_before : Bytes → List Bytes → List Bytes
names_before n [] = []
names_before n (m ∷ ms) = elim (same n m) [ true ↦ [] | false ↦ m ∷ names_before n ms ]

-- 14: the attribute's row, if present, gets the value; else a row comes in table order
abbrev pub set_at : ℕ → Owned → Bytes → List ℕ → Plan
set_at k o v [] =
    making (element_with k) (λ u r. not (is_attribute r.sort && member bytes r.name (names_before o.attribute.name (map attribute_name o.owner.attributes))))
    (tree (record { serial = 0; sort = attribute; name = o.attribute.name; value = v }) bare bare)
set_at k o v (s ∷ ss) = setting s v

abbrev pub set_plan : List Line → ℕ → Bytes → Option Owned → Plan
set_plan ls k v none = keeping
set_plan ls k v (some o) = set_at k o v (children_of (attribute_named o.attribute.name) k ls)

-- 10 and 15: rows of an attribute below elements
abbrev pub drop_plan : (Owned → Row → Bool) → Option Owned → Plan
drop_plan above none = keeping
drop_plan above (some o) = taking (λ u r. above o u && attribute_named o.attribute.name r)

unfoldable pub plan : Call → ℕ → Form → List Line → Plan
plan (create_definition n k) version form ls = keeping
plan (destroy_definition i) version form ls = keeping
plan (insert_element o p i q t) version form ls =
    insert_plan version form (name_at_index o form) t (quantifier_of q) (name_at_index i form) (place_of (insert (quantifier_of q) (name_at_index i form)) p (members (definition_at o form)))
plan (remove_element o p) version form ls = picked_plan (λ c t. remove_plan (name_at_index o form) t) (place_of remove p (members (definition_at o form)))
plan (change_quantifier o p q t) version form ls =
    picked_plan (quantify_plan version form ls (name_at_index o form) t (quantifier_of q)) (place_of (quantify (quantifier_of q)) p (members (definition_at o form)))
plan (convert_to_group o p n k) version form ls = keeping
plan (flatten_group o p) version form ls = keeping
plan (change_group_quantifier o p q t) version form ls =
    picked_plan (quantify_plan version form ls (name_at_index o form) t (quantifier_of q)) (place_of (quantify (quantifier_of q)) p (members (definition_at o form)))
plan (add_attribute o n k v) version form ls =
    making (λ r. must_be_present version (sort_of k) && element_named (name_at_index o form) r) (λ u r. not (is_attribute r.sort)) (tree (attribute_row (new_attribute n k v)) bare bare)
plan (destroy_attribute a) version form ls = drop_plan (λ o u. element_named o.owner.name u) (attribute_at a form)
plan (add_document i t) version form ls = making is_ground neither (fill_definition version form t (name_at_index i form))
plan (add_element k j i t) version form ls =
    making (element_with k) (λ u r. eqb r.serial (serial_at j (children_of is_element_row k ls))) (fill_definition version form t (name_at_index i form))
plan (destroy_element k) version form ls = taking (λ u r. element_with k r)
plan (set_attribute k a v) version form ls = set_plan ls k v (attribute_at a form)
plan (destroy_attribute_row k a) version form ls = drop_plan (λ o u. element_with k u) (attribute_at a form)
plan (set_text k t) version form ls = setting (serial_at 0 (children_of is_text_row k ls)) t

-- ---- a plan carried out on the documents
unfoldable pub prune : (Row → Row → Bool) → Row → Forest Row → Forest Row
prune takes u bare = bare
prune takes u (tree r b t) = elim (takes u r) [ true ↦ prune takes u t | false ↦ tree r (prune takes r b) (prune takes u t) ]

abbrev pub revalue : ℕ → Bytes → Row → Row
revalue k v r = record { serial = r.serial; sort = r.sort; name = r.name; value = elim (eqb r.serial k) [ true ↦ v | false ↦ r.value ] }

unfoldable pub each_row : (Row → Row) → Forest Row → Forest Row
each_row f bare = bare
each_row f (tree r b t) = tree (f r) (each_row f b) (each_row f t)

-- The rows below u, with the new rows among them. `due`: u fills, and the new rows have still to come below it; they
-- come before the first row that is later, else after all.
unfoldable pub plant : Plan → Row → Bool → Forest Row → Forest Row
plant p u true bare = p.filling
plant p u false bare = bare
plant p u due (tree r b t) =
    elim (due && p.later u r) [
      | true ↦ p.filling ⧺ tree r (plant p r (p.fills r) b) (plant p u false t)
      | false ↦ tree r (plant p r (p.fills r) b) (plant p u due t)
    ]

-- rows taken, values set, new rows put
abbrev pub changed : Plan → Forest Row → Forest Row
changed p docs = plant p ground (p.fills ground) (each_row (revalue p.set p.value) (prune p.takes ground docs))

-- 'New rows get serials in document order'
abbrev pub is_new : Row → ℕ
is_new r = elim (eqb r.serial 0) [ true ↦ 1 | false ↦ 0 ]

unfoldable pub new_rows : Forest Row → ℕ
new_rows bare = 0
new_rows (tree r b t) = is_new r + (new_rows b + new_rows t)

unfoldable pub given : ℕ → Row → Row
given n r = elim (eqb r.serial 0) [ true ↦ record { serial = n; sort = r.sort; name = r.name; value = r.value } | false ↦ r ]

unfoldable pub number : ℕ → Forest Row → Forest Row
number n bare = bare
number n (tree r b t) = tree (given n r) (number (n + is_new r) b) (number (n + (is_new r + new_rows b)) t)

-- the store that an accepted call leaves
abbrev pub docs_after : Call → Store → Forest Row
docs_after c s = changed (plan c s.version s.form (lines 0 s.docs)) s.docs

unfoldable pub after : Call → Store → Store
after c s =
    record {
      version = s.version;
      next = s.next + new_rows (docs_after c s);
      form = form_after c s.form;
      docs = number s.next (docs_after c s);
    }
