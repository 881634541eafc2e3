-- A reader of printed texts. It is total and tests as little as it can: what it builds counts only if it prints as the
-- text (Reading). A count bounds the steps: no printed text needs more.
use Rattle.std.specs.Prelude.{ℕ, zero, suc, ◌+◌, ◌*◌, Bool, true, false, ◌||◌, List, [], ◌∷◌, eqb, length, drop}
use Rattle.rules.specs.declared.Quantifier.{Quantifier}
use Rattle.rules.specs.declared.Quantifier.TheVariants.{None, Qmark, Star, Plus}
use Rattle.rules.specs.declared.GroupKind.{GroupKind}
use Rattle.rules.specs.declared.GroupKind.TheVariants.{Sequence, Choice}
use Rattle.rules.specs.declared.AttributeSort.{AttributeSort}
use Rattle.rules.specs.declared.AttributeSort.TheVariants.{Implied, Required, Fixed}
use Rattle.rules.specs.Bytes.{Bytes, ascii, is_none}
use Rattle.rules.specs.Model.{Members, done, el, group}
use Rattle.rules.specs.Store.{Content, empty, pcdata, complex, Attribute, Definition, Form, attribute, text, Row, Forest, bare, tree, Store}
use Rattle.rules.specs.WellFormed.{in_name, lookup}
use Rattle.rules.specs.Filling.{element_row}
use Rattle.rules.specs.Change.{new_rows, number}
use Rattle.rules.specs.Refusal.{is_pcdata}
use Rattle.rules.specs.Print.{mark_of}
use Rattle.text_scan.specs.Scan.{first_byte, starts_with, front_while, after_while, no_quote, no_tag, value_of_raw}

-- what was read, and what is left
pub record Read (A : Type 0) : Type 0 where
  pub value : A
  pub rest : Bytes

-- ---- content models
-- the mark that the text begins with, None where there is none
abbrev pub quantifier_of_text : Bytes → Quantifier
quantifier_of_text txt = elim (eqb (first_byte txt) 63) [ true ↦ Qmark | false ↦ elim (eqb (first_byte txt) 42) [ true ↦ Star | false ↦ elim (eqb (first_byte txt) 43) [ true ↦ Plus | false ↦ None ] ] ]

abbrev pub after_mark : Bytes → Bytes
after_mark txt = drop (length (mark_of (quantifier_of_text txt))) txt

-- `kind`: what the separators say, LIST where there is none
pub record ReadGroup : Type 0 where
  pub members : Members Bytes
  pub kind : GroupKind
  pub rest : Bytes

abbrev pub separates : ℕ → Bool
separates x = eqb x 44 || eqb x 124

abbrev pub kind_of_separator : ℕ → GroupKind
kind_of_separator x = elim (eqb x 124) [ true ↦ Choice | false ↦ Sequence ]

-- a member is read, `txt` is what comes after it: the others, if there are
abbrev pub with_others : (Members Bytes → Members Bytes) → Bytes → (Bytes → ReadGroup) → ReadGroup
with_others member txt others =
    elim (separates (first_byte txt)) [
      | true ↦ let more = others (drop 1 txt) in record { members = member more.members; kind = kind_of_separator (first_byte txt); rest = more.rest }
      | false ↦ record { members = member done; kind = Sequence; rest = txt }
    ]

-- at most n members in all
unfoldable pub members_of_text : ℕ → Bytes → ReadGroup
members_of_text zero txt = record { members = done; kind = Sequence; rest = txt }
members_of_text (suc n) txt =
    elim (eqb (first_byte txt) 40) [
      | true ↦
          let inner = members_of_text n (drop 1 txt) in
          let t = drop 1 inner.rest in
          with_others (λ others. group (quantifier_of_text t) inner.kind inner.members others) (after_mark t) (λ u. members_of_text n u)
      | false ↦
          let t = after_while in_name txt in
          with_others (λ others. el (quantifier_of_text t) (front_while in_name txt) others) (after_mark t) (λ u. members_of_text n u)
    ]

unfoldable pub content_of_text : Bytes → Read Content
content_of_text txt =
    elim (starts_with (ascii "EMPTY") txt) [
      | true ↦ record { value = empty; rest = drop 5 txt }
      | false ↦
          elim (starts_with (ascii "(#") txt) [
            | true ↦ record { value = pcdata; rest = drop 9 txt }
            | false ↦ let m = members_of_text (length txt) (drop 1 txt) in record { value = complex m.members; rest = drop 1 m.rest }
          ]
    ]

-- ---- declarations
pub record Default : Type 0 where
  pub sort : AttributeSort
  pub value : Bytes

unfoldable pub default_of_text : Bytes → Read Default
default_of_text txt =
    elim (starts_with (ascii "#I") txt) [
      | true ↦ record { value = record { sort = Implied; value = [] }; rest = drop 8 txt }
      | false ↦
          elim (starts_with (ascii "#R") txt) [
            | true ↦ record { value = record { sort = Required; value = ascii "-" }; rest = drop 9 txt }
            | false ↦ record { value = record { sort = Fixed; value = value_of_raw (front_while no_quote (drop 8 txt)) }; rest = drop 1 (after_while no_quote (drop 8 txt)) }
          ]
    ]

-- an attribute line, of which `txt` is what comes after the owner's name and a blank
unfoldable pub attribute_of_text : Bytes → Read Attribute
attribute_of_text txt =
    let d = default_of_text (drop 7 (after_while in_name txt)) in
    record { value = record { name = front_while in_name txt; sort = d.value.sort; value = d.value.value }; rest = drop 2 d.rest }

unfoldable pub attributes_of_text : ℕ → Bytes → Read (List Attribute)
attributes_of_text zero txt = record { value = []; rest = txt }
attributes_of_text (suc n) txt =
    elim (starts_with (ascii "<!A") txt) [
      | true ↦
          let a = attribute_of_text (drop 1 (after_while in_name (drop 10 txt))) in
          let more = attributes_of_text n a.rest in
          record { value = a.value ∷ more.value; rest = more.rest }
      | false ↦ record { value = []; rest = txt }
    ]

unfoldable pub definition_of_text : Bytes → Read Definition
definition_of_text txt =
    let c = content_of_text (drop 1 (after_while in_name (drop 10 txt))) in
    let table = attributes_of_text (length txt) (drop 2 c.rest) in
    record { value = record { name = front_while in_name (drop 10 txt); content = c.value; attributes = table.value }; rest = table.rest }

unfoldable pub form_of_text : ℕ → Bytes → Read Form
form_of_text zero txt = record { value = []; rest = txt }
form_of_text (suc n) txt =
    elim (starts_with (ascii "<!E") txt) [
      | true ↦
          let d = definition_of_text txt in
          let more = form_of_text n d.rest in
          record { value = d.value ∷ more.value; rest = more.rest }
      | false ↦ record { value = []; rest = txt }
    ]

-- ---- documents
-- rows without serials
abbrev pub attribute_row_with : Bytes → Bytes → Row
attribute_row_with n v = record { serial = 0; sort = attribute; name = n; value = v }

abbrev pub text_row_with : Bytes → Row
text_row_with v = record { serial = 0; sort = text; name = []; value = v }

-- an element of this name holds a text, which may be empty and then is not seen
abbrev pub holds_text : Form → Bytes → Bool
holds_text form n = is_pcdata (lookup n form)

-- the rows below an element, up to its end tag; `opened`: its start tag is not ended yet; `pc`: it holds a text
unfoldable pub rows_of_text : Form → ℕ → Bool → Bool → Bytes → Read (Forest Row)
rows_of_text form zero opened pc txt = record { value = bare; rest = txt }
rows_of_text form (suc n) true pc txt =
    elim (eqb (first_byte txt) 32) [
      | true ↦
          let t = drop 2 (after_while in_name (drop 1 txt)) in
          let more = rows_of_text form n true pc (drop 1 (after_while no_quote t)) in
          record { value = tree (attribute_row_with (front_while in_name (drop 1 txt)) (value_of_raw (front_while no_quote t))) bare more.value; rest = more.rest }
      | false ↦ rows_of_text form n false pc (drop 1 txt)
    ]
rows_of_text form (suc n) false true txt = record { value = tree (text_row_with (value_of_raw (front_while no_tag txt))) bare bare; rest = after_while no_tag txt }
rows_of_text form (suc n) false false txt =
    elim (starts_with (ascii "</") txt) [
      | true ↦ record { value = bare; rest = txt }
      | false ↦
          let name = front_while in_name (drop 1 txt) in
          let below = rows_of_text form n true (holds_text form name) (after_while in_name (drop 1 txt)) in
          let more = rows_of_text form n false false (drop 1 (after_while in_name (drop 2 below.rest))) in
          record { value = tree (element_row name) below.value more.value; rest = more.rest }
    ]

unfoldable pub documents_of_text : Form → ℕ → Bytes → Forest Row
documents_of_text form zero txt = bare
documents_of_text form (suc n) txt =
    elim (is_none txt) [
      | true ↦ bare
      | false ↦
          let name = front_while in_name (drop 1 txt) in
          let below = rows_of_text form (3 * length txt) true (holds_text form name) (after_while in_name (drop 1 txt)) in
          tree (element_row name) below.value (documents_of_text form n (drop 2 (after_while in_name (drop 2 below.rest))))
    ]

-- the store of a version that the text would be of
unfoldable pub parsed : ℕ → Bytes → Store
parsed version txt =
    let f = form_of_text (length txt) txt in
    let docs = documents_of_text f.value (length f.rest) f.rest in
    record { version = version; next = 1 + new_rows docs; form = f.value; docs = number 1 docs }
