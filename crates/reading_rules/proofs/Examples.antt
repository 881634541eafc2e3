-- Texts that are read and texts that are refused, each by computing the answer.
use Prim.Native.Nat.{ℕ}
use Prim.Native.String.{String}
use mathlib.Core.Path.{◌≡◌, refl}
use mathlib.Core.List.{[], ◌∷◌}
use lib.ListN.{length}
use Rattle.rules.specs.declared.Quantifier.TheVariants.{None, Star}
use Rattle.rules.specs.declared.GroupKind.TheVariants.{Sequence, Choice}
use Rattle.rules.specs.declared.AttributeSort.TheVariants.{Implied}
use Rattle.rules.specs.Bytes.{Bytes, ascii, concat}
use Rattle.rules.specs.Model.{done, el, group, names, member, full, distinct}
use Rattle.rules.specs.Automaton.{accepts, continues, facts}
use Rattle.rules.specs.Store.{Content, empty, complex, Definition, Form, element, attribute, Row, Forest, bare, tree, Store}
use Rattle.rules.specs.Layout.{base_version, value_width, encode}
use Rattle.rules.specs.WellFormed.{good_definition, well_formed}
use Rattle.rules.specs.Conforming.{strip, fits_row, conforming}
use Rattle.rules.specs.Passing.{good_serials, good}
use Rattle.rules.specs.Change.{new_rows, given, number}
use Rattle.rules.specs.Outcome.{Outcome, refused, wrote}
use Rattle.rules.specs.Print.{printed}
use Rattle.rules.specs.Run.{empty_store}
use Rattle.text_scan.specs.Scan.{starts_with, front_while, after_while, unescaped}
use Rattle.reading_rules.specs.Reader.{members_of_text, content_of_text, default_of_text, attribute_of_text, attributes_of_text, definition_of_text, form_of_text}
use Rattle.reading_rules.specs.Reader.{rows_of_text, documents_of_text, parsed}
use Rattle.reading_rules.specs.Reading.{read_text, read_outcome}

-- ---- small stores
abbrev pub defined : String → Content → Definition
defined n k = record { name = ascii n; content = k; attributes = [] }

abbrev pub element_numbered : ℕ → String → Row
element_numbered k n = record { serial = k; sort = element; name = ascii n; value = [] }

abbrev store_having : ℕ → Form → Forest Row → Store
store_having next form docs = record { version = base_version; next = next; form = form; docs = docs }

-- a alone, EMPTY
abbrev one_definition : Store
one_definition = store_having 1 (defined "a" empty ∷ []) bare

-- a, EMPTY with an IMPLIED v, and a document in which v is `>`
abbrev one_value : Store
one_value =
    store_having 3 (record { name = ascii "a"; content = empty; attributes = record { name = ascii "v"; sort = Implied; value = [] } ∷ [] } ∷ [])
    (tree (element_numbered 1 "a") (tree (record { serial = 2; sort = attribute; name = ascii "v"; value = ascii ">" }) bare bare) bare)

-- r with a CHOICE of a and b as its one member
abbrev either_inside : Store
either_inside = store_having 1 (defined "r" (complex (group None Choice (el None (ascii "a") (el None (ascii "b") done)) done)) ∷ defined "a" empty ∷ defined "b" empty ∷ []) bare

-- r with (a,b)*, and a document with two rounds of it
abbrev two_rounds : Store
two_rounds =
    store_having 6 (defined "r" (complex (group Star Sequence (el None (ascii "a") (el None (ascii "b") done)) done)) ∷ defined "a" empty ∷ defined "b" empty ∷ [])
    (tree (element_numbered 1 "r") (tree (element_numbered 2 "a") bare (tree (element_numbered 3 "b") bare (tree (element_numbered 4 "a") bare (tree (element_numbered 5 "b") bare bare)))) bare)

abbrev answer : Bytes → ℕ → Outcome
answer txt room = read_outcome base_version txt room

abbrev a_and_b : Bytes
a_and_b = ascii "<!ELEMENT a EMPTY>\n<!ELEMENT b EMPTY>\n"

-- ---- small texts first
pub record TextsRead : Type 0 where
  -- the empty text is that of a fresh store, 40 bytes
  pub nothing : answer [] 40 ≡ wrote (encode empty_store)
  pub fresh : length (encode empty_store) ≡ 40
  pub nothing_short : answer [] 39 ≡ refused 18
  -- an element that no line declares
  pub undeclared : answer (ascii "<a></a>\n") 9999 ≡ refused 19
  -- the last line feed; 18 only for a text that is read
  pub line : answer (ascii "<!ELEMENT a EMPTY>\n") 9999 ≡ wrote (encode one_definition)
  pub line_short : answer (ascii "<!ELEMENT a EMPTY>\n") 59 ≡ refused 18
  pub line_unended : answer (ascii "<!ELEMENT a EMPTY>") 9999 ≡ refused 19
  pub line_unended_short : answer (ascii "<!ELEMENT a EMPTY>") 0 ≡ refused 19
  -- a `>` in a value stands as its escape only
  pub escaped : answer (ascii "<!ELEMENT a EMPTY>\n<!ATTLIST a v CDATA #IMPLIED>\n<a v=\"&gt;\"></a>\n") 9999 ≡ wrote (encode one_value)
  pub raw : answer (ascii "<!ELEMENT a EMPTY>\n<!ATTLIST a v CDATA #IMPLIED>\n<a v=\">\"></a>\n") 9999 ≡ refused 19
  -- the top of a model is a LIST
  pub choice_at_top : answer (concat (ascii "<!ELEMENT r (a|b)>\n" ∷ a_and_b ∷ [])) 9999 ≡ refused 19
  pub choice_inside : answer (concat (ascii "<!ELEMENT r ((a|b))>\n" ∷ a_and_b ∷ [])) 9999 ≡ wrote (encode either_inside)
  pub two_rounds : answer (concat (ascii "<!ELEMENT r ((a,b)*)>\n" ∷ a_and_b ∷ ascii "<r><a></a><b></b><a></a><b></b></r>\n" ∷ [])) 9999 ≡ wrote (encode two_rounds)

pub texts_read : TextsRead
unfolding value_width names member full distinct facts continues accepts good_definition well_formed strip fits_row conforming good_serials good new_rows given number
    printed starts_with front_while after_while unescaped members_of_text content_of_text default_of_text attribute_of_text attributes_of_text definition_of_text form_of_text rows_of_text
    documents_of_text parsed read_text read_outcome
texts_read =
    record {
      nothing = refl;
      fresh = refl;
      nothing_short = refl;
      undeclared = refl;
      line = refl;
      line_short = refl;
      line_unended = refl;
      line_unended_short = refl;
      escaped = refl;
      raw = refl;
      choice_at_top = refl;
      choice_inside = refl;
      two_rounds = refl;
    }
