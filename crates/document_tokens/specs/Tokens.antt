-- The rows that the documents of a text would be of, token by token. A token counts only if it stands in the text
-- exactly as it is printed.
use Rattle.std.specs.Prelude.{ℕ, zero, suc, ◌+◌, ◌-◌, Bool, true, false, ◌&&◌, ◌||◌, List, [], ◌∷◌, ◌++◌, map, eqb, leb, ltb, length, drop}
use Rattle.std.proofs.Math.Option.{Option, none, some}
use Rattle.rules.specs.Bytes.{Bytes, ascii, same, is_none}
use Rattle.rules.specs.Preorder.{Deep}
use Rattle.rules.specs.Layout.{FlatDefinition, FlatAttribute, FlatRow}
use Rattle.rules.specs.WellFormed.{in_name}
use Rattle.rules.specs.Decode.{name_at, flat_name}
use Rattle.layout.specs.RowBytes.{row_of}
use Rattle.lookup.specs.Bodies.{bodies_of}
use Rattle.text_scan.specs.Scan.{first_byte, starts_with, front_while, after_while, no_quote, no_tag, unescaped, value_or}
use Rattle.declaration_scan.specs.Declared.{place_among}

-- what rows are read by: the definitions and attributes of a form
pub record Declared : Type 0 where
  pub definitions : List FlatDefinition
  pub attributes : List FlatAttribute

abbrev pub declared_in : Bytes → Declared
declared_in bs = record { definitions = (bodies_of bs).definitions; attributes = (bodies_of bs).attributes }

abbrev pub declared_names : Declared → List Bytes
declared_names f = map flat_name f.definitions

-- the code of the kind of definition i; 0 where there is none
unfoldable pub kind_of_definition : ℕ → List FlatDefinition → ℕ
kind_of_definition i [] = 0
kind_of_definition zero (d ∷ ds) = d.kind
kind_of_definition (suc i) (d ∷ ds) = kind_of_definition i ds

-- where the attribute of an owner with this name stands; past the last where there is none
unfoldable pub attribute_among : ℕ → Bytes → List FlatAttribute → ℕ
attribute_among o n [] = 0
attribute_among o n (a ∷ table) = elim (eqb o a.owner && same n a.name) [ true ↦ 0 | false ↦ suc (attribute_among o n table) ]

-- ---- tokens
-- `exact`: it stands here as it is printed; `sort`: the code of the row that it makes, 0 if it makes none
pub record Token : Type 0 where
  pub exact : Bool
  pub size : ℕ
  pub sort : ℕ
  pub index : ℕ
  pub value : Bytes

-- a value of at most w bytes
abbrev pub short_value : ℕ → Option Bytes → Bool
short_value w none = false
short_value w (some v) = leb (length v) w

-- `<` and a name
abbrev pub element_token : Declared → Bytes → Token
element_token f txt =
    let n : Bytes = front_while in_name (drop 1 txt) in
    let i : ℕ = place_among n (declared_names f) in
    record { exact = eqb (first_byte txt) 60 && ltb i (length f.definitions); size = 1 + length n; sort = 1; index = i; value = [] }

-- a blank, a name, `="`, a value and `"`, of an attribute of definition o
abbrev pub attribute_token : Declared → ℕ → ℕ → Bytes → Token
attribute_token f w o txt =
    let n : Bytes = front_while in_name (drop 1 txt) in
    let t : Bytes = after_while in_name (drop 1 txt) in
    let raw : Bytes = front_while no_quote (drop 2 t) in
    let v : Option Bytes = unescaped 0 raw in
    let i : ℕ = attribute_among o n f.attributes in
    record {
      exact = starts_with (ascii "=\"") t && (eqb (first_byte (after_while no_quote (drop 2 t))) 34 && (ltb i (length f.attributes) && short_value w v));
      size = 4 + (length n + length raw);
      sort = 2;
      index = i;
      value = value_or v;
    }

-- `>` and a text, which may be empty
abbrev pub text_token : ℕ → Bytes → Token
text_token w txt =
    let raw : Bytes = front_while no_tag (drop 1 txt) in
    let v : Option Bytes = unescaped 0 raw in
    record { exact = eqb (first_byte txt) 62 && short_value w v; size = 1 + length raw; sort = 3; index = 0; value = value_or v }

-- `>`
abbrev pub start_end_token : Bytes → Token
start_end_token txt = record { exact = eqb (first_byte txt) 62; size = 1; sort = 0; index = 0; value = [] }

-- what ends the element of definition o in so many others: `</`, its name, `>`, and a line feed after a document
abbrev pub end_tag : Declared → ℕ → ℕ → Bytes
end_tag f o zero = ascii "</" ++ (name_at o (declared_names f) ++ ascii ">\n")
end_tag f o (suc others) = ascii "</" ++ (name_at o (declared_names f) ++ ascii ">")

abbrev pub end_token : Declared → ℕ → ℕ → Bytes → Token
end_token f o others txt = record { exact = starts_with (end_tag f o others) txt; size = length (end_tag f o others); sort = 0; index = 0; value = [] }

-- no token
abbrev pub no_token : Token
no_token = record { exact = false; size = 1; sort = 0; index = 0; value = [] }

-- in the start tag of an element of definition o
abbrev pub tag_token : Declared → ℕ → ℕ → Bytes → Token
tag_token f w o txt =
    elim (eqb (first_byte txt) 32) [
      | true ↦ attribute_token f w o txt
      | false ↦ elim (eqb (kind_of_definition o f.definitions) 1) [ true ↦ text_token w txt | false ↦ start_end_token txt ]
    ]

-- The token here. `opened`: the definitions of the elements that are opened, the innermost first; `tag`: its start tag
-- is not ended yet.
unfoldable pub token_at : Declared → ℕ → List ℕ → Bool → Bytes → Token
token_at f w opened true txt = elim opened [ [] ↦ no_token | o ∷ others ↦ tag_token f w o txt ]
token_at f w opened false txt =
    elim (starts_with (ascii "</") txt) [
      | true ↦ elim opened [ [] ↦ no_token | o ∷ others ↦ end_token f o (length others) txt ]
      | false ↦ elim (ltb (length opened) 255) [ true ↦ element_token f txt | false ↦ no_token ]
    ]

-- ---- what a token does: the row it makes with serial k, and what is opened after it
abbrev pub row_of_token : ℕ → ℕ → Token → List (Deep FlatRow)
row_of_token k d t = elim (eqb t.sort 0) [ true ↦ [] | false ↦ row_of t.sort d t.index k t.value ∷ [] ]

abbrev pub open_after : Bool → List ℕ → Token → List ℕ
open_after tag opened t = elim (eqb t.sort 1) [ true ↦ t.index ∷ opened | false ↦ elim (eqb t.sort 0) [ true ↦ elim tag [ true ↦ opened | false ↦ drop 1 opened ] | false ↦ opened ] ]

abbrev pub tag_after : Token → Bool
tag_after t = eqb t.sort 1 || eqb t.sort 2

abbrev pub with_rows : List (Deep FlatRow) → Option (List (Deep FlatRow)) → Option (List (Deep FlatRow))
with_rows xs none = none
with_rows xs (some ys) = some (xs ++ ys)

-- THE ROWS FROM HERE ON, the first with serial k, without the first `skip` bytes of the text; none where a token is not
-- exact or an element is opened at the end
unfoldable pub document_rows : Declared → ℕ → ℕ → List ℕ → Bool → ℕ → Bytes → Option (List (Deep FlatRow))
document_rows f w k opened tag zero [] = elim (is_none opened) [ true ↦ some [] | false ↦ none ]
document_rows f w k opened tag (suc skip) [] = none
document_rows f w k opened tag (suc skip) (x ∷ xs) = document_rows f w k opened tag skip xs
document_rows f w k opened tag zero (x ∷ xs) =
    let t : Token = token_at f w opened tag (x ∷ xs) in
    let made : List (Deep FlatRow) = row_of_token k (length opened) t in
    elim t.exact [
      | true ↦ with_rows made (document_rows f w (k + length made) (open_after tag opened t) (tag_after t) (t.size - 1) xs)
      | false ↦ none
    ]
