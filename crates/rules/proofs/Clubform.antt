-- The clubform history of paper 01, computed through the byte strings, with its book.
use mathlib.Core.Path.{◌≡◌, refl}
use mathlib.Core.Bool.{Bool, true, false, ◌&&◌, false≢true}
use mathlib.Core.Option.{Option, none, some}
use mathlib.Core.List.{List, [], ◌∷◌, ◌++◌, map}
use lib.Dec.{eqb}
use lib.ListN.{length}
use Rattle.rules.specs.Bytes.{Bytes, ascii, same, same_eq, eqb_eq}
use Rattle.rules.specs.Model.{names, nothing, filling, member, full, distinct}
use Rattle.rules.specs.Automaton.{accepts, continues, facts}
use Rattle.rules.specs.Store.{RowSort, element, attribute, text, Row, Store}
use Rattle.rules.specs.Layout.{value_width, row_code}
use Rattle.rules.specs.Decode.{confirm, next_serial}
use Rattle.rules.specs.WellFormed.{good_definition, well_formed}
use Rattle.rules.specs.Conforming.{strip, fits_row, conforming}
use Rattle.rules.specs.Passing.{good, good_serials, read_store, passes}
use Rattle.rules.specs.Filling.{fill_attributes, fill_each, fill_content, fill_within}
use Rattle.rules.specs.Place.{plug, kind_at, spine, before_place, around, after_members, find}
use Rattle.rules.specs.Edit.{◌⊕◌, edited, place, place_of}
use Rattle.rules.specs.Lines.{Line, lines, find_row, children_of}
use Rattle.rules.specs.Change.{Call, create_definition, insert_element, change_quantifier, add_document, add_element, set_text, attribute_at, form_after, plan}
use Rattle.rules.specs.Change.{prune, each_row, plant, new_rows, given, number, after}
use Rattle.rules.specs.Refusal.{conditions, refusal}
use Rattle.rules.specs.Outcome.{wrote, outcome}
use Rattle.rules.specs.Print.{printed, print_outcome}
use Rattle.rules.specs.Book.{untaken, row_by_serial, falls, mark, put_spot, spots, expand, spot_count, note}
use Rattle.rules.specs.Run.{Asked, Moment, start, step, run}
use Rattle.rules.proofs.Words.{and_split}

abbrev asked : Call → Asked
asked c = record { call = c; room = 508 }

abbrev pub clubform : List Asked
clubform =
    map asked
    (create_definition (ascii "race") 2
    ∷ create_definition (ascii "finisher") 2
    ∷ create_definition (ascii "bib") 1
    ∷ create_definition (ascii "time") 1
    ∷ insert_element 0 (0 ∷ []) 1 2 []
    ∷ insert_element 1 (0 ∷ []) 2 0 (ascii "0")
    ∷ insert_element 1 (1 ∷ []) 3 0 (ascii "-")
    ∷ add_document 0 []
    ∷ add_element 1 0 1 (ascii "7")
    ∷ set_text 5 (ascii "19:04")
    ∷ create_definition (ascii "club") 1
    ∷ insert_element 1 (1 ∷ []) 4 0 (ascii "none")
    ∷ change_quantifier 1 (3 ∷ []) 1 []
    ∷ [])

abbrev end : Moment
end = run clubform start

abbrev pub printed_text : Bytes
printed_text =
    ascii "<!ELEMENT race (finisher*)>\n<!ELEMENT finisher (bib,club,time?)>\n<!ELEMENT bib (#PCDATA)>\n<!ELEMENT time (#PCDATA)>\n<!ELEMENT club (#PCDATA)>\n"
    ++ ascii "<race><finisher><bib>7</bib><club>none</club><time>19:04</time></finisher></race>\n"

-- two lists of lines are equal, as a test that computes
abbrev same_row : Row → Row → Bool
same_row r u = eqb r.serial u.serial && (eqb (row_code r.sort) (row_code u.sort) && (same r.name u.name && same r.value u.value))

abbrev same_lines : List Line → List Line → Bool
same_lines [] [] = true
same_lines [] (m ∷ ms) = false
same_lines (l ∷ ls) [] = false
same_lines (l ∷ ls) (m ∷ ms) = (eqb l.parent m.parent && same_row l.row m.row) && same_lines ls ms

same_sort : (s t : RowSort) → eqb (row_code s) (row_code t) ≡ true → s ≡ t
same_sort element element e = refl
same_sort element attribute e = absurd (false≢true e)
same_sort element text e = absurd (false≢true e)
same_sort attribute element e = absurd (false≢true e)
same_sort attribute attribute e = refl
same_sort attribute text e = absurd (false≢true e)
same_sort text element e = absurd (false≢true e)
same_sort text attribute e = absurd (false≢true e)
same_sort text text e = refl

same_row_lem : (r u : Row) → same_row r u ≡ true → r ≡ u
same_row_lem r u e =
    let (a, f) = and_split (eqb r.serial u.serial) _ e in
    let (b, g) = and_split (eqb (row_code r.sort) (row_code u.sort)) _ f in
    let (c, d) = and_split (same r.name u.name) (same r.value u.value) g in
    λ i. record { serial = eqb_eq r.serial u.serial a i; sort = same_sort r.sort u.sort b i; name = same_eq r.name u.name c i; value = same_eq r.value u.value d i }

same_lines_lem : (ls ms : List Line) → same_lines ls ms ≡ true → ls ≡ ms
same_lines_lem [] [] e = refl
same_lines_lem [] (m ∷ ms) e = absurd (false≢true e)
same_lines_lem (l ∷ ls) [] e = absurd (false≢true e)
same_lines_lem (l ∷ ls) (m ∷ ms) e =
    let (f, g) = and_split (eqb l.parent m.parent && same_row l.row m.row) (same_lines ls ms) e in
    let (p, q) = and_split (eqb l.parent m.parent) (same_row l.row m.row) f in
    λ i. record { parent = eqb_eq l.parent m.parent p i; row = same_row_lem l.row m.row q i } ∷ same_lines_lem ls ms g i

abbrev lines_of : Option Store → List Line
lines_of none = []
lines_of (some s) = lines 0 s.docs

pub record Clubform : Type 0 where
  pub size : length end.store ≡ 508
  pub next : next_serial end.store ≡ 9
  pub check : passes end.store ≡ true
  pub print : print_outcome end.store 1000 ≡ wrote printed_text
  pub rows : same_lines (lines_of (read_store end.store)) (untaken end.book.entries) ≡ true
  pub row_count : length (untaken end.book.entries) ≡ 8
  pub book_next : end.book.next ≡ 9

pub clubform_end : Clubform
unfolding value_width names nothing filling member full distinct facts continues accepts plug kind_at spine before_place around after_members find ◌⊕◌ edited place
    place_of good_definition well_formed strip fits_row conforming good_serials good fill_attributes fill_each fill_content fill_within find_row children_of attribute_at
    form_after plan prune each_row plant new_rows given number after conditions refusal confirm outcome printed print_outcome untaken row_by_serial falls mark put_spot
    spots expand spot_count note step run
clubform_end = record { size = refl; next = refl; check = refl; print = refl; rows = refl; row_count = refl; book_next = refl }

-- the store's rows are the book's untaken lines, in its order
pub clubform_rows : lines_of (read_store end.store) ≡ untaken end.book.entries
clubform_rows = same_lines_lem _ _ clubform_end.rows
