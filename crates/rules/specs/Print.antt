-- 'Printing': a text is a list of lines, a line a list of tokens.
use Rattle.std.specs.Prelude.{ℕ, true, false, List, [], ◌∷◌, ◌++◌, map, eqb, ltb, length}
use Rattle.rules.specs.declared.Quantifier.{Quantifier}
use Rattle.rules.specs.declared.Quantifier.TheVariants.{None, Qmark, Star, Plus}
use Rattle.rules.specs.declared.GroupKind.{GroupKind}
use Rattle.rules.specs.declared.GroupKind.TheVariants.{Sequence, Choice}
use Rattle.rules.specs.declared.AttributeSort.TheVariants.{Implied, Required, Fixed}
use Rattle.rules.specs.Bytes.{Bytes, ascii, concat}
use Rattle.rules.specs.Model.{Members, done, el, group}
use Rattle.rules.specs.Store.{Content, empty, pcdata, complex, Attribute, Definition, Form, element, attribute, text, Row, Forest, bare, tree, Store}
use Rattle.rules.specs.Passing.{read_store}
use Rattle.rules.specs.Outcome.{Outcome, unless_refused, on_store}

abbrev pub Tokens : Type 0
Tokens = List Bytes

-- `&`, `<`, `>`, `"`
abbrev pub escape_byte : ℕ → Bytes
escape_byte x =
    elim (eqb x 38) [
      | true ↦ ascii "&amp;"
      | false ↦ elim (eqb x 60) [ true ↦ ascii "&lt;" | false ↦ elim (eqb x 62) [ true ↦ ascii "&gt;" | false ↦ elim (eqb x 34) [ true ↦ ascii "&quot;" | false ↦ x ∷ [] ] ] ]
    ]

abbrev pub escape : Bytes → Bytes
escape [] = []
escape (x ∷ xs) = escape_byte x ++ escape xs

-- ---- content models
abbrev pub mark_of : Quantifier → Bytes
mark_of None = []
mark_of Qmark = ascii "?"
mark_of Star = ascii "*"
mark_of Plus = ascii "+"

abbrev pub separator : GroupKind → Bytes
separator Sequence = ascii ","
separator Choice = ascii "|"

-- each member behind `sign`, which is nothing at the first
abbrev pub member_tokens : GroupKind → Bytes → Members Bytes → Tokens
member_tokens k sign done = []
member_tokens k sign (el q n rest) = sign ∷ n ∷ mark_of q ∷ member_tokens k (separator k) rest
member_tokens k sign (group q j ms rest) = sign ∷ ascii "(" ∷ member_tokens j [] ms ++ (ascii ")" ∷ mark_of q ∷ member_tokens k (separator k) rest)

abbrev pub model_tokens : Members Bytes → Tokens
model_tokens done = ascii "EMPTY" ∷ []
model_tokens (el q n rest) = ascii "(" ∷ member_tokens Sequence [] (el q n rest) ++ (ascii ")" ∷ [])
model_tokens (group q k ms rest) = ascii "(" ∷ member_tokens Sequence [] (group q k ms rest) ++ (ascii ")" ∷ [])

abbrev pub content_tokens : Content → Tokens
content_tokens empty = ascii "EMPTY" ∷ []
content_tokens pcdata = ascii "(#PCDATA)" ∷ []
content_tokens (complex ms) = model_tokens ms

-- ---- declarations
abbrev pub definition_line : Definition → Tokens
definition_line d = ascii "<!ELEMENT " ∷ d.name ∷ ascii " " ∷ content_tokens d.content ++ (ascii ">\n" ∷ [])

abbrev pub default_tokens : Attribute → Tokens
default_tokens a =
    elim a.sort [
      | Implied ↦ ascii "#IMPLIED" ∷ []
      | Required ↦ ascii "#REQUIRED" ∷ []
      | Fixed ↦ ascii "#FIXED \"" ∷ escape a.value ∷ ascii "\"" ∷ []
    ]

abbrev pub attribute_line : Bytes → Attribute → Tokens
attribute_line owner a = ascii "<!ATTLIST " ∷ owner ∷ ascii " " ∷ a.name ∷ ascii " CDATA " ∷ default_tokens a ++ (ascii ">\n" ∷ [])

abbrev pub attribute_lines : Bytes → List Attribute → List Tokens
attribute_lines owner [] = []
attribute_lines owner (a ∷ table) = attribute_line owner a ∷ attribute_lines owner table

abbrev pub form_lines : Form → List Tokens
form_lines [] = []
form_lines (d ∷ ds) = definition_line d ∷ attribute_lines d.name d.attributes ++ form_lines ds

-- ---- documents
-- the rows below an element; `sign` ends its start tag and comes after the attribute rows
abbrev pub row_tokens : Bytes → Forest Row → Tokens
row_tokens sign bare = sign ∷ []
row_tokens sign (tree r b t) =
    elim r.sort [
      | element ↦ sign ∷ ascii "<" ∷ r.name ∷ row_tokens (ascii ">") b ++ (ascii "</" ∷ r.name ∷ ascii ">" ∷ row_tokens [] t)
      | attribute ↦ ascii " " ∷ r.name ∷ ascii "=\"" ∷ escape r.value ∷ ascii "\"" ∷ row_tokens sign t
      | text ↦ sign ∷ escape r.value ∷ row_tokens [] t
    ]

abbrev pub document_lines : Forest Row → List Tokens
document_lines bare = []
document_lines (tree r b t) = (ascii "<" ∷ r.name ∷ row_tokens (ascii ">") b ++ (ascii "</" ∷ r.name ∷ ascii ">\n" ∷ [])) ∷ document_lines t

abbrev pub text_lines : Store → List Tokens
text_lines s = form_lines s.form ++ document_lines s.docs

unfoldable pub printed : Store → Bytes
printed s = concat (map concat (text_lines s))

abbrev pub too_long : ℕ → Bytes → ℕ
too_long room w = elim (ltb room (length w)) [ true ↦ 18 | false ↦ 0 ]

-- printing the store `bs`, with so much room in the output buffer
unfoldable pub print_outcome : Bytes → ℕ → Outcome
print_outcome bs room = on_store (λ s. unless_refused (too_long room (printed s)) (printed s)) (read_store bs)
