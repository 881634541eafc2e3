-- EVERY PRINTED TEXT IS READ, AS THE CANONICAL STORE: the rows of a store that passes stand as a text shows them
-- (Shapes), by what conforming says of each row, so its lines are read one after the other (Declarations, Documents).
use Prim.Native.Nat.{ℕ, ◌+◌, ◌≤◌}
use native.Mathlib.Omega.{arith}
use mathlib.Core.Path.{◌≡◌, refl, sym, ◌∙◌, subst}
use mathlib.Core.Bool.{Bool, true, false, ◌&&◌}
use mathlib.Core.Option.{some}
use mathlib.Core.List.Memᴰ
use mathlib.Core.List.{List, [], ◌∷◌, ◌++◌, map, Memᴰ}
use lib.ListN.{length}
use Rattle.rules.specs.Bytes.{Bytes, is_none}
use Rattle.rules.specs.Model.{names}
use Rattle.rules.specs.Store.{Content, empty, pcdata, complex, Attribute, Definition, Form, element, attribute, Row, Forest, Store, members}
use Rattle.rules.specs.Layout.{value_width}
use Rattle.rules.specs.WellFormed.{is_name, stored_name, is_value, is_fill, is_attribute_of, lookup, known, attribute_name, GoodDefinition, WellFormed}
use Rattle.rules.specs.Conforming.{name_of, EveryRow, Sorted, ContentRows, ElementRows, RowConforms}
use Rattle.rules.specs.Passing.{laid_row, Good}
use Rattle.rules.specs.Print.{form_lines, document_lines, text_lines, printed}
use Rattle.rules.proofs.Words.{and_split}
use Rattle.rules.proofs.TestLaws.{all_test}
use Rattle.rules.proofs.BooleanLaws.{every_in, none_nil}
use Rattle.rules.proofs.Height.{lookup_member, known_found}
use Rattle.rules.proofs.WellFormedLaws.{well_formed_lem, definition_good}
use Rattle.rules.proofs.ConformingLaws.{in_order_lem}
use Rattle.change_laws.proofs.EditFillings.{every_two}
use Rattle.reading_rules.specs.Canonical.{canonical_definition, unnumbered, canonical}
use Rattle.reading_rules.specs.Reader.{form_of_text, documents_of_text, parsed}
use Rattle.reading_rules.proofs.Pieces.{put_lines, put_lines_append, lines_concat}
use Rattle.reading_rules.proofs.Declarations.{ReadableDefinition, form_of_text_lem, form_long}
use Rattle.reading_rules.proofs.Documents.{ShownDocuments, lines_of_documents, documents_of_text_lem, documents_long, documents_apart}
use Rattle.reading_rules.proofs.Shapes.{is_textual, holds_canonical, Order, attribute_first, then_content, the_text, nothing_more, element_first, RowStands, shown_documents}

-- ---- rows of an element
elements_order : (rs : List Row) → Sorted element rs → Order false false rs
elements_order [] q = nothing_more
elements_order (r ∷ rs) q = element_first (q r (Memᴰ.head refl)) (elements_order rs (λ u m. q u (Memᴰ.tail m)))

content_order : (c : Content) (rs : List Row) → ContentRows c rs → Order false (is_textual c) rs
content_order empty rs e = rw e nothing_more
content_order pcdata rs (r, e, q) = rw e (the_text q)
content_order (complex ms) rs (q, l) = elements_order rs q

-- attribute rows in front
front_order : (pc : Bool) (front rest : List Row) → Sorted attribute front → ((r : Row) → Memᴰ r front → is_name r.name ≡ true) → Order false pc rest → Order true pc (front ++ rest)
front_order pc [] rest q h o = then_content o
front_order pc (r ∷ front) rest q h o =
    attribute_first (q r (Memᴰ.head refl)) (h r (Memᴰ.head refl))
    (front_order pc front rest (λ u m. q u (Memᴰ.tail m)) (λ u m. h u (Memᴰ.tail m)) o)

pub attribute_named_lem : (w : ℕ) (a : Attribute) → is_attribute_of w a ≡ true → is_name a.name ≡ true
attribute_named_lem w a e = (and_split (stored_name a.name) (is_value w a.value && is_fill a.sort a.value) e).0

-- the rows below an element of this definition: those of its attributes have names since the attributes do
element_order : (version w : ℕ) (form : Form) (d : Definition) (below : List Row) → GoodDefinition w form d → ElementRows version d below → Order true (is_textual d.content) below
element_order version w form d below g x =
    subst (λ (z : List Row). Order true (is_textual d.content) z) x.split
    (front_order (is_textual d.content) x.front x.back x.attributes.sorts owned (content_order d.content x.back x.content))
  where
    owned : (r : Row) → Memᴰ r x.front → is_name r.name ≡ true
    owned r m =
        let (a, i, e) = Memᴰ.of_map attribute_name d.attributes (in_order_lem (map name_of x.front) (map attribute_name d.attributes) x.attributes.owned r.name (Memᴰ.map name_of m)) in
        rw (sym e) (attribute_named_lem w a (g.attributes a i))

-- ---- names
module _ (w : ℕ) (form : Form) (ok : WellFormed w form) where
  found_good : (n : Bytes) (d : Definition) → lookup n form ≡ some d → GoodDefinition w form d
  found_good n d e = definition_good w form ((well_formed_lem w form).1 ok) n d e

  pub found_named : (n : Bytes) (d : Definition) → lookup n form ≡ some d → is_name n ≡ true
  found_named n d e = rw (← (lookup_member n form d e).1) (found_good n d e).name

  known_name : (n : Bytes) → known form n ≡ true → is_name n ≡ true
  known_name n k = let (d, e) = known_found form n k in found_named n d e

  pub readable : (d : Definition) → Memᴰ d form → ReadableDefinition d
  readable d m =
      let g = ok.definitions d m in
      record {
        name = g.name;
        groups = g.groups;
        members = (all_test is_name (names (members d))).1 (λ n i. known_name n (g.in_range n i));
        attributes = every_in (λ a. is_name a.name ≡ true) d.attributes (λ a i. attribute_named_lem w a (g.attributes a i));
      }

  -- ---- a row
  module _ (version : ℕ) where
    -- a row that conforms and is laid out
    row_stands : (r : Row) (below : List Row) → RowConforms version form r below → laid_row w r ≡ true → RowStands (map canonical_definition form) r below
    row_stands r below c l =
        record {
          element = λ q.
              let (d, e, x) = rw q at c in
              let o = element_order version w form d below (found_good r.name d e) x in
              (found_named r.name d e, none_nil r.value (rw q at l), rw (holds_canonical form r.name d e) o);
          attribute = λ q. rw q at c;
          text = λ q. let v : (is_value w r.value && is_none r.name) ≡ true = rw q at l in (rw q at c, none_nil r.name (and_split (is_value w r.value) (is_none r.name) v).1);
        }

    every_stands : (f : Forest Row) → EveryRow (λ r below. RowConforms version form r below) f → EveryRow (λ r below. laid_row w r ≡ true) f
        → EveryRow (λ r below. RowStands (map canonical_definition form) r below) f
    every_stands f x y = every_two _ _ _ row_stands f x y

-- ---- the whole text
pub text_of : (s : Store) → printed s ≡ put_lines (form_lines s.form) (lines_of_documents s.docs)
unfolding printed lines_of_documents
text_of s = lines_concat (text_lines s) ∙ put_lines_append (form_lines s.form) (document_lines s.docs) []

-- what is read is put together
parsed_text : (form : Form) (docs : Forest Row) (t : Bytes) → form_of_text (length t) t ≡ record { value = map canonical_definition form; rest = lines_of_documents docs }
    → documents_of_text (map canonical_definition form) (length (lines_of_documents docs)) (lines_of_documents docs) ≡ unnumbered docs
    → (v k : ℕ) → parsed v t ≡ canonical (record { version = v; next = k; form = form; docs = docs })
unfolding parsed canonical
parsed_text form docs t e g v k = rw (e, g)

pub parsed_printed : (s : Store) → Good s → parsed s.version (printed s) ≡ canonical s
parsed_printed s g =
    let w : ℕ = value_width s.version in
    let form' : Form = map canonical_definition s.form in
    let rows = every_stands w s.form g.form s.version s.docs g.docs.rows g.values in
    let shown : ShownDocuments form' s.docs = shown_documents form' s.docs rows g.docs.roots in
    let names = every_in (λ d. ReadableDefinition d) s.form (readable w s.form g.form) in
    let rest : Bytes = lines_of_documents s.docs in
    let txt : Bytes = put_lines (form_lines s.form) rest in
    let long : length s.form + length rest ≤ length txt = form_long s.form rest in
    let e : form_of_text (length txt) txt ≡ record { value = form'; rest = rest } =
    form_of_text_lem _ s.form rest names (documents_apart 65 shown) (documents_apart 69 shown) (omega arith) in
    rw (text_of s) (parsed_text s.form s.docs txt e (documents_of_text_lem _ shown (documents_long shown)) s.version s.next)
