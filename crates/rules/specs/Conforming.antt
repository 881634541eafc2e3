-- 'Conforming', in the paper's words, and as a test in one pass over the rows right below each element.
use Rattle.std.specs.Prelude.{ℕ, ◌≡◌, ◌⊎◌, Bool, true, false, ◌&&◌}
use Rattle.std.proofs.Math.Option.{Option, none, some}
use mathlib.Core.List.{List, [], ◌∷◌, ◌++◌, map, Memᴰ}
use Rattle.rules.specs.declared.AttributeSort.{AttributeSort}
use Rattle.rules.specs.declared.AttributeSort.TheVariants.{Implied, Required, Fixed}
use Rattle.rules.specs.Bytes.{Bytes, same, bytes, all, is_none}
use Rattle.rules.specs.Language.{Conforms}
use Rattle.rules.specs.Automaton.{accepts}
use Rattle.rules.specs.Store.{Content, empty, pcdata, complex, Attribute, Definition, Form, RowSort, element}
use Rattle.rules.specs.Store.{attribute, text, Row, Forest, bare, tree, heads}
use Rattle.rules.specs.WellFormed.{lookup, attribute_name}

abbrev pub name_of : Row → Bytes
name_of r = r.name

-- every row, with the rows right below it
abbrev pub EveryRow : (Row → List Row → Type 0) → Forest Row → Type 0
EveryRow P bare = Unit {0}
EveryRow P (tree r b t) = P r (heads b) × EveryRow P b × EveryRow P t

-- all rows of a list are of one sort
abbrev pub Sorted : RowSort → List Row → Type 0
Sorted s rs = (r : Row) → Memᴰ r rs → r.sort ≡ s

-- names taken out of a table in its order, each entry at most once
abbrev pub InOrder : List Bytes → List Bytes → Type 0
InOrder [] table = Unit {0}
InOrder (x ∷ xs) [] = ⊥
InOrder (x ∷ xs) (y ∷ table) = ((x ≡ y) × InOrder xs table) ⊎ InOrder (x ∷ xs) table

-- 'REQUIRED present': must a row of this attribute be there, in a store of this version
abbrev pub must_be_present : ℕ → AttributeSort → Bool
must_be_present version Implied = false
must_be_present version Required = true
must_be_present version Fixed = false

-- 'FIXED equal if present': is a value right for an attribute of this sort, with this fill
abbrev pub allows : AttributeSort → Bytes → Bytes → Bool
allows Implied fill v = true
allows Required fill v = true
allows Fixed fill v = same fill v

-- 'attribute rows are the owner's, each at most once, REQUIRED present, FIXED equal if present', in table order
pub record AttributeRows (version : ℕ) (table : List Attribute) (rows : List Row) : Type 0 where
  pub sorts : Sorted attribute rows
  pub owned : InOrder (map name_of rows) (map attribute_name table)
  pub present : (a : Attribute) → Memᴰ a table → must_be_present version a.sort ≡ true → Memᴰ a.name (map name_of rows)
  pub equal : (a : Attribute) → Memᴰ a table → (r : Row) → Memᴰ r rows → r.name ≡ a.name → allows a.sort a.value r.value ≡ true

-- 'an element's children in order are in its model's language; EMPTY has
-- none, PCDATA has no elements and exactly one text row'
abbrev pub ContentRows : Content → List Row → Type 0
ContentRows empty rows = rows ≡ []
ContentRows pcdata rows = (r : Row) × (rows ≡ r ∷ []) × (r.sort ≡ text)
ContentRows (complex ms) rows = Sorted element rows × Conforms ms (map name_of rows)

-- the rows right below an element: its attribute rows, then its content
pub record ElementRows (version : ℕ) (d : Definition) (below : List Row) : Type 0 where
  pub front : List Row
  pub back : List Row
  pub split : front ++ back ≡ below
  pub attributes : AttributeRows version d.attributes front
  pub content : ContentRows d.content back

-- attributes and texts hold nothing
abbrev pub RowConforms : ℕ → Form → Row → List Row → Type 0
RowConforms version form r below = elim r.sort [ element ↦ (d : Definition) × (lookup r.name form ≡ some d) × ElementRows version d below | attribute ↦ below ≡ [] | text ↦ below ≡ [] ]

-- 'Conforming', of all documents: each root is an element, and every row conforms with the rows right below it
pub record Conforming (version : ℕ) (form : Form) (docs : Forest Row) : Type 0 where
  pub roots : Sorted element (heads docs)
  pub rows : EveryRow (λ r below. RowConforms version form r below) docs

-- ---- the same as a test
abbrev pub is_element : RowSort → Bool
is_element element = true
is_element attribute = false
is_element text = false

abbrev pub is_attribute : RowSort → Bool
is_attribute element = false
is_attribute attribute = true
is_attribute text = false

abbrev pub is_text : RowSort → Bool
is_text element = false
is_text attribute = false
is_text text = true

abbrev pub every_row : (Row → List Row → Bool) → Forest Row → Bool
every_row p bare = true
every_row p (tree r b t) = p r (heads b) && (every_row p b && every_row p t)

-- the attribute rows taken off the front, in table order
unfoldable pub strip : ℕ → List Attribute → List Row → Option (List Row)
strip version [] rows = some rows
strip version (a ∷ table) [] = elim (must_be_present version a.sort) [ true ↦ none | false ↦ strip version table [] ]
strip version (a ∷ table) (r ∷ rows) =
    elim (is_attribute r.sort && same a.name r.name) [
      | true ↦ elim (allows a.sort a.value r.value) [ true ↦ strip version table rows | false ↦ none ]
      | false ↦ elim (must_be_present version a.sort) [ true ↦ none | false ↦ strip version table (r ∷ rows) ]
    ]

abbrev pub is_one_text : List Row → Bool
is_one_text [] = false
is_one_text (r ∷ rows) = is_text r.sort && is_none rows

abbrev pub fits : Content → List Row → Bool
fits empty rows = is_none rows
fits pcdata rows = is_one_text rows
fits (complex ms) rows = all (λ (r : Row). is_element r.sort) rows && accepts bytes ms (map name_of rows)

abbrev pub fits_stripped : Content → Option (List Row) → Bool
fits_stripped c none = false
fits_stripped c (some rows) = fits c rows

abbrev pub fits_definition : ℕ → Option Definition → List Row → Bool
fits_definition version none below = false
fits_definition version (some d) below = fits_stripped d.content (strip version d.attributes below)

unfoldable pub fits_row : ℕ → Form → Row → List Row → Bool
fits_row version form r below = elim r.sort [ element ↦ fits_definition version (lookup r.name form) below | attribute ↦ is_none below | text ↦ is_none below ]

unfoldable pub conforming : ℕ → Form → Forest Row → Bool
conforming version form docs = all (λ (r : Row). is_element r.sort) (heads docs) && every_row (λ r below. fits_row version form r below) docs
