-- 'The store': what it holds. Members and rows carry names where the
-- bytes have indices; Layout turns names into indices.
use Rattle.std.specs.Prelude.{ℕ, List, [], ◌∷◌}
use Rattle.rules.specs.declared.AttributeSort.{AttributeSort}
use Rattle.rules.specs.Bytes.{Bytes}
use Rattle.rules.specs.Model.{Members, done}

-- the kind of a definition; a COMPLEX one has a model, the members of its top list
pub data Content : Type 0 where
  empty pcdata : Content
  complex : Members Bytes → Content

-- a REQUIRED attribute's value is the fill for created rows
pub record Attribute : Type 0 where
  pub name : Bytes
  pub sort : AttributeSort
  pub value : Bytes

-- a definition with its model and its attributes, oldest first
pub record Definition : Type 0 where
  pub name : Bytes
  pub content : Content
  pub attributes : List Attribute

-- the form: definitions, models and attributes
abbrev pub Form : Type 0
Form = List Definition

pub data RowSort : Type 0 where
  element attribute text : RowSort

-- a tree row; serial 0: not given yet; a text has no name, an element no value
pub record Row : Type 0 where
  pub serial : ℕ
  pub sort : RowSort
  pub name : Bytes
  pub value : Bytes

-- A row with the rows below it, then the rows beside it that come after.
-- The documents, and what is below a row, are a forest.
pub data Forest (A : Type 0) : Type 0 where
  bare : Forest A
  tree : A → Forest A → Forest A → Forest A

pub record Store : Type 0 where
  pub version : ℕ
  pub next : ℕ
  pub form : Form
  pub docs : Forest Row

-- the members of the top list: 'a definition that isn't COMPLEX has an empty top list'
abbrev pub model_of : Content → Members Bytes
model_of empty = done
model_of pcdata = done
model_of (complex ms) = ms

abbrev pub members : Definition → Members Bytes
members d = model_of d.content

infixr 66 ◌⧺◌
abbrev pub ◌⧺◌ : {A : Type 0} → Forest A → Forest A → Forest A
bare ⧺ g = g
tree r b t ⧺ g = tree r b (t ⧺ g)

-- the rows beside one another at the top of a forest
abbrev pub heads : {A : Type 0} → Forest A → List A
heads bare = []
heads (tree r b t) = r ∷ heads t
