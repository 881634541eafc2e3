-- THE CANONICAL STORE PRINTS THE SAME TEXT: by induction on members, tables, forms and rows. What is changed is printed
-- nowhere: the sort of a group of one member, a model without members, the fill of a REQUIRED attribute, serials.
use Prim.Native.Nat.{ℕ, ◌+◌}
use mathlib.Core.Path.{◌≡◌, refl, ap, ap₂, ◌∙◌}
use mathlib.Core.List.{List, [], ◌∷◌, ◌++◌, map}
use Rattle.rules.specs.declared.GroupKind.{GroupKind}
use Rattle.rules.specs.declared.GroupKind.TheVariants.{Sequence}
use Rattle.rules.specs.declared.AttributeSort.{AttributeSort}
use Rattle.rules.specs.declared.AttributeSort.TheVariants.{Implied, Required, Fixed}
use Rattle.rules.specs.Bytes.{Bytes, ascii, concat}
use Rattle.rules.specs.Model.{Members, done, el, group}
use Rattle.rules.specs.Store.{Content, empty, pcdata, complex, Attribute, Form, RowSort, element, attribute, text, Row, Forest, bare, tree, Store}
use Rattle.rules.specs.Change.{each_row, new_rows, given, number}
use Rattle.rules.specs.Print.{Tokens, escape, mark_of, separator, member_tokens, content_tokens, default_tokens, attribute_lines, form_lines, row_tokens, document_lines, printed}
use Rattle.reading_rules.specs.Canonical.{canonical_kind, canonical_members, canonical_content, canonical_attribute, canonical_definition, unnumbered, canonical}

-- ---- content models
-- one member has no separator
lone_tokens : (k : GroupKind) (ms : Members Bytes) → member_tokens (canonical_kind k ms) [] ms ≡ member_tokens k [] ms
lone_tokens k done = refl
lone_tokens k (el q n done) = refl
lone_tokens k (el q n (el q' n' s)) = refl
lone_tokens k (el q n (group q' i ms s)) = refl
lone_tokens k (group q i ms done) = refl
lone_tokens k (group q i ms (el q' n' s)) = refl
lone_tokens k (group q i ms (group q' i' ms' s)) = refl

pub members_text_lem : (k : GroupKind) (sign : Bytes) (ms : Members Bytes) → member_tokens k sign (canonical_members ms) ≡ member_tokens k sign ms
unfolding canonical_members
members_text_lem k sign done = refl
members_text_lem k sign (el q n rest) = ap (λ (z : Tokens). sign ∷ n ∷ mark_of q ∷ z) (members_text_lem k (separator k) rest)
members_text_lem k sign (group q j ms rest) =
    ap₂ (λ (u v : Tokens). sign ∷ ascii "(" ∷ u ++ (ascii ")" ∷ mark_of q ∷ v)) (members_text_lem (canonical_kind j ms) [] ms ∙ lone_tokens j ms) (members_text_lem k (separator k) rest)

pub content_text_lem : (c : Content) → content_tokens (canonical_content c) ≡ content_tokens c
unfolding canonical_members
content_text_lem empty = refl
content_text_lem pcdata = refl
content_text_lem (complex done) = refl
content_text_lem (complex (el q n rest)) = ap (λ (z : Tokens). ascii "(" ∷ z ++ (ascii ")" ∷ [])) (members_text_lem Sequence [] (el q n rest))
content_text_lem (complex (group q k ms rest)) = ap (λ (z : Tokens). ascii "(" ∷ z ++ (ascii ")" ∷ [])) (members_text_lem Sequence [] (group q k ms rest))

-- ---- declarations
default_text_lem : (n : Bytes) (k : AttributeSort) (v : Bytes) → default_tokens (canonical_attribute (record { name = n; sort = k; value = v })) ≡ default_tokens (record { name = n; sort = k; value = v })
default_text_lem n Implied v = refl
default_text_lem n Required v = refl
default_text_lem n Fixed v = refl

attributes_text_lem : (owner : Bytes) (table : List Attribute) → attribute_lines owner (map canonical_attribute table) ≡ attribute_lines owner table
attributes_text_lem owner [] = refl
attributes_text_lem owner (a ∷ table) =
    ap₂ (λ (d : Tokens) (ls : List Tokens). (ascii "<!ATTLIST " ∷ owner ∷ ascii " " ∷ a.name ∷ ascii " CDATA " ∷ d ++ (ascii ">\n" ∷ [])) ∷ ls)
    (default_text_lem a.name a.sort a.value) (attributes_text_lem owner table)

pub form_text_lem : (form : Form) → form_lines (map canonical_definition form) ≡ form_lines form
form_text_lem [] = refl
form_text_lem (d ∷ ds) =
    λ i. (ascii "<!ELEMENT " ∷ d.name ∷ ascii " " ∷ content_text_lem d.content i ++ (ascii ">\n" ∷ [])) ∷ attributes_text_lem d.name d.attributes i ++ form_text_lem ds i

-- ---- documents
-- the tokens of a row and what comes after it, by the row's sort
abbrev tokens_by : RowSort → Bytes → Bytes → Bytes → Tokens → Tokens → Tokens → Tokens
tokens_by k sign n v below ended others =
    elim k [
      | element ↦ sign ∷ ascii "<" ∷ n ∷ below ++ (ascii "</" ∷ n ∷ ascii ">" ∷ ended)
      | attribute ↦ ascii " " ∷ n ∷ ascii "=\"" ∷ escape v ∷ ascii "\"" ∷ others
      | text ↦ sign ∷ escape v ∷ ended
    ]

pub rows_text_lem : (sign : Bytes) (n : ℕ) (f : Forest Row) → row_tokens sign (number n (unnumbered f)) ≡ row_tokens sign f
unfolding number each_row given
rows_text_lem sign n bare = refl
rows_text_lem sign n (tree r b t) =
    λ i. tokens_by r.sort sign r.name r.value (rows_text_lem (ascii ">") (n + 1) b i) (rows_text_lem [] (n + (1 + new_rows (unnumbered b))) t i) (rows_text_lem sign (n + (1 + new_rows (unnumbered b))) t i)

pub documents_text_lem : (n : ℕ) (f : Forest Row) → document_lines (number n (unnumbered f)) ≡ document_lines f
unfolding number each_row given
documents_text_lem n bare = refl
documents_text_lem n (tree r b t) =
    λ i. (ascii "<" ∷ r.name ∷ rows_text_lem (ascii ">") (n + 1) b i ++ (ascii "</" ∷ r.name ∷ ascii ">\n" ∷ [])) ∷ documents_text_lem (n + (1 + new_rows (unnumbered b))) t i

-- ---- the text
pub same_text : (s : Store) → printed (canonical s) ≡ printed s
unfolding printed canonical
same_text s =
    let rows : document_lines (canonical s).docs ≡ document_lines s.docs = documents_text_lem _ s.docs in
    λ i. concat (map concat (form_text_lem s.form i ++ rows i))
