-- A history that makes, takes, revalues and is refused, computed through the
-- byte strings, with its book; and how new lines find their places.
use Prim.Native.Nat.{ℕ}
use mathlib.Core.Path.{◌≡◌, refl}
use mathlib.Core.Option.{Option, none, some}
use mathlib.Core.List.{List, [], ◌∷◌, ◌++◌, map}
use Rattle.rules.specs.Bytes.{Bytes, ascii}
use Rattle.rules.specs.declared.Quantifier.TheVariants.{Qmark, Star}
use Rattle.rules.specs.Model.{done, el, names, nothing, filling, member, full, distinct}
use Rattle.rules.specs.Automaton.{accepts, continues, facts}
use Rattle.rules.specs.Store.{empty, complex, Form, element, Store}
use Rattle.rules.specs.Layout.{value_width, base_version}
use Rattle.rules.specs.Decode.{confirm, next_serial}
use Rattle.rules.specs.WellFormed.{good_definition, well_formed}
use Rattle.rules.specs.Conforming.{strip, fits_row, conforming}
use Rattle.rules.specs.Passing.{good, good_serials, serials, read_store}
use Rattle.rules.specs.Filling.{fill_attributes, fill_each, fill_content, fill_within}
use Rattle.rules.specs.Place.{plug, kind_at, spine, before_place, around, after_members, find}
use Rattle.rules.specs.Edit.{◌⊕◌, edited, place, place_of}
use Rattle.rules.specs.Lines.{Line, find_row, children_of}
use Rattle.rules.specs.Change.{Call, create_definition, insert_element, change_quantifier, add_attribute, add_document, add_element, destroy_element}
use Rattle.rules.specs.Change.{set_attribute, set_text, attribute_at, form_after, Plan, plan, prune, each_row, plant, new_rows, given, number, after}
use Rattle.rules.specs.Refusal.{conditions, refusal}
use Rattle.rules.specs.Outcome.{outcome}
use Rattle.rules.specs.Book.{Book, Entry, stands, taken, untaken, row_by_serial, falls, Mark, mark, old, spot, put_spot, spots, expand, spot_count, marks, note}
use Rattle.rules.specs.Run.{Asked, Moment, start, step, run}

-- ---- the worked example of specs/Book.antt: four lines, one of them taken; each race gets a split after its laps
abbrev race_form : Form
race_form =
    record { name = ascii "race"; content = complex (el Star (ascii "lap") done); attributes = [] }
    ∷ record { name = ascii "lap"; content = empty; attributes = [] }
    ∷ record { name = ascii "split"; content = empty; attributes = [] }
    ∷ []

abbrev line_of : ℕ → ℕ → Bytes → Line
line_of up k n = record { parent = up; row = record { serial = k; sort = element; name = n; value = [] } }

abbrev race1 : Line
race1 = line_of 0 1 (ascii "race")

abbrev lap2 : Line
lap2 = line_of 1 2 (ascii "lap")

abbrev lap3 : Line
lap3 = line_of 1 3 (ascii "lap")

abbrev race4 : Line
race4 = line_of 0 4 (ascii "race")

abbrev four_lines : List Entry
four_lines = stands race1 ∷ stands lap2 ∷ taken lap3 ∷ stands race4 ∷ []

abbrev four_book : Book
four_book = record { version = base_version; next = 5; form = race_form; entries = four_lines }

abbrev split_plan : Plan
split_plan = plan (insert_element 0 (1 ∷ []) 2 0 (ascii "t")) base_version race_form (untaken four_lines)

-- race 1 gets a lap as its child 1: behind lap 2 and the line that was taken after it
abbrev lap_plan : Plan
lap_plan = plan (add_element 1 1 1 []) base_version race_form (untaken four_lines)

-- race (lap*,split?); race 1 has a split and no lap, race 3 a lap and no split
abbrev split_form : Form
split_form =
    record { name = ascii "race"; content = complex (el Star (ascii "lap") (el Qmark (ascii "split") done)); attributes = [] }
    ∷ record { name = ascii "lap"; content = empty; attributes = [] }
    ∷ record { name = ascii "split"; content = empty; attributes = [] }
    ∷ record { name = ascii "rest"; content = empty; attributes = [] }
    ∷ []

abbrev split2 : Line
split2 = line_of 1 2 (ascii "split")

abbrev race3 : Line
race3 = line_of 0 3 (ascii "race")

abbrev lap4 : Line
lap4 = line_of 3 4 (ascii "lap")

abbrev split_lines : List Entry
split_lines = stands race1 ∷ stands split2 ∷ stands race3 ∷ stands lap4 ∷ []

abbrev split_marks : Call → List Mark
split_marks k = marks (plan k base_version split_form (untaken split_lines)) split_lines

pub record Spots : Type 0 where
  pub child_is : marks lap_plan four_lines ≡ old (stands race1) ∷ old (stands lap2) ∷ old (taken lap3) ∷ spot 1 ∷ old (stands race4) ∷ []
  -- exactly one lap: race 1 gets it before its split
  pub gain_is : split_marks (change_quantifier 0 (1 ∷ []) 0 []) ≡ old (stands race1) ∷ spot 1 ∷ old (stands split2) ∷ old (stands race3) ∷ old (stands lap4) ∷ []
  -- a rest between lap and split: where no lap stands, before the split
  pub insert_is : split_marks (insert_element 0 (1 ∷ []) 3 0 [])
      ≡ old (stands race1) ∷ spot 1 ∷ old (stands split2) ∷ old (stands race3) ∷ old (stands lap4) ∷ spot 3 ∷ []
  pub marks_are : marks split_plan four_lines
      ≡ old (stands race1) ∷ old (stands lap2) ∷ old (taken lap3) ∷ spot 1 ∷ old (stands race4) ∷ spot 4 ∷ []
  pub lines_are : expand split_plan.filling 5 (marks split_plan four_lines)
      ≡ stands race1 ∷ stands lap2 ∷ taken lap3 ∷ stands (line_of 1 5 (ascii "split")) ∷ stands race4 ∷ stands (line_of 4 6 (ascii "split")) ∷ []
  pub next_is : (note (insert_element 0 (1 ∷ []) 2 0 (ascii "t")) four_book).next ≡ 7
  -- destroying race 1 takes its lap with it
  pub below_is : (note (destroy_element 1) four_book).entries ≡ taken race1 ∷ taken lap2 ∷ taken lap3 ∷ stands race4 ∷ []

-- ---- a history
abbrev asked : Call → Asked
asked c = record { call = c; room = 1000 }

-- Two races; the first has two laps, each with a chip. Rows: race 1; race
-- 2; lap 3 with chip 4 and text 5; lap 6 with 7 and 8.
pub laps : List Asked
laps =
    map asked
    (create_definition (ascii "race") 2
    ∷ create_definition (ascii "lap") 1
    ∷ create_definition (ascii "split") 0
    ∷ insert_element 0 (0 ∷ []) 1 2 []
    ∷ add_attribute 1 (ascii "chip") 1 (ascii "x")
    ∷ add_document 0 []
    ∷ add_document 0 []
    ∷ add_element 1 0 1 (ascii "10")
    ∷ add_element 1 1 1 (ascii "11")
    ∷ set_text 3 (ascii "12")
    ∷ set_attribute 6 0 (ascii "y")
    ∷ [])

-- each race gets a split after its laps: 9 and 10
pub splits : List Asked
splits = asked (insert_element 0 (1 ∷ []) 2 0 (ascii "t")) ∷ []

-- exactly one lap: the first race loses lap 6 with all below it, the second
-- gets lap 11 with chip 12 and text 13, before its split
pub one_lap : List Asked
one_lap = asked (change_quantifier 0 (1 ∷ []) 0 (ascii "0")) ∷ []

-- three calls that are refused: the name exists, the lap is needed, the buffer is short
pub refused_calls : List Asked
refused_calls = asked (create_definition (ascii "lap") 1) ∷ asked (destroy_element 3) ∷ record { call = add_document 0 (ascii "1"); room = 100 } ∷ []

abbrev serials_of : List Line → List ℕ
serials_of ls = map (λ (l : Line). l.row.serial) ls

abbrev taken_of : List Entry → List ℕ
taken_of [] = []
taken_of (stands l ∷ es) = taken_of es
taken_of (taken l ∷ es) = l.row.serial ∷ taken_of es

abbrev parents_of : List Line → List ℕ
parents_of ls = map (λ (l : Line). l.parent) ls

abbrev values_of : List Line → List Bytes
values_of ls = map (λ (l : Line). l.row.value) ls

abbrev rows_in : Option Store → List ℕ
rows_in none = []
rows_in (some s) = serials s.docs

abbrev made : Moment
made = run (laps ++ splits) start

abbrev cut : Moment
cut = run (laps ++ (splits ++ one_lap)) start

abbrev end : Moment
end = run (laps ++ (splits ++ (one_lap ++ refused_calls))) start

-- The small example stands first: of a definition that is changed the prover shows there what it computes to, and soon.
pub record Laps : Type 0 where
  pub spots_are : Spots
  pub lines : serials_of (untaken made.book.entries) ≡ 1 ∷ 3 ∷ 4 ∷ 5 ∷ 6 ∷ 7 ∷ 8 ∷ 9 ∷ 2 ∷ 10 ∷ []
  pub parents : parents_of (untaken made.book.entries) ≡ 0 ∷ 1 ∷ 3 ∷ 3 ∷ 1 ∷ 6 ∷ 6 ∷ 1 ∷ 0 ∷ 2 ∷ []
  pub values : values_of (untaken made.book.entries) ≡ [] ∷ [] ∷ ascii "x" ∷ ascii "12" ∷ [] ∷ ascii "y" ∷ ascii "11" ∷ [] ∷ [] ∷ [] ∷ []
  pub rows : rows_in (read_store made.store) ≡ 1 ∷ 3 ∷ 4 ∷ 5 ∷ 6 ∷ 7 ∷ 8 ∷ 9 ∷ 2 ∷ 10 ∷ []
  pub lines_cut : serials_of (untaken cut.book.entries) ≡ 1 ∷ 3 ∷ 4 ∷ 5 ∷ 9 ∷ 2 ∷ 11 ∷ 12 ∷ 13 ∷ 10 ∷ []
  pub taken_cut : taken_of cut.book.entries ≡ 6 ∷ 7 ∷ 8 ∷ []
  pub rows_cut : rows_in (read_store cut.store) ≡ 1 ∷ 3 ∷ 4 ∷ 5 ∷ 9 ∷ 2 ∷ 11 ∷ 12 ∷ 13 ∷ 10 ∷ []
  -- the refused calls leave all as it was
  pub lines_end : serials_of (untaken end.book.entries) ≡ 1 ∷ 3 ∷ 4 ∷ 5 ∷ 9 ∷ 2 ∷ 11 ∷ 12 ∷ 13 ∷ 10 ∷ []
  pub next_book : end.book.next ≡ 14
  pub next_store : next_serial end.store ≡ 14

pub laps_end : Laps
unfolding value_width names nothing filling member full distinct facts continues accepts plug kind_at spine before_place around after_members find ◌⊕◌ edited place
    place_of good_definition well_formed strip fits_row conforming good_serials good fill_attributes fill_each fill_content fill_within find_row children_of attribute_at
    form_after plan prune each_row plant new_rows given number after conditions refusal confirm outcome untaken row_by_serial falls mark put_spot spots expand
    spot_count note step run laps splits one_lap refused_calls
laps_end =
    record {
      spots_are = record { child_is = refl; gain_is = refl; insert_is = refl; marks_are = refl; lines_are = refl; next_is = refl; below_is = refl };
      lines = refl;
      parents = refl;
      values = refl;
      rows = refl;
      lines_cut = refl;
      taken_cut = refl;
      rows_cut = refl;
      lines_end = refl;
      next_book = refl;
      next_store = refl;
    }
