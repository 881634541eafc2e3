-- Two rounds of (a,b)*, read from their text: rows that no change of rows makes, since an element more or less leaves
-- half a round. Then changes of them, computed through the byte strings, with the book: an element that each instance
-- needs is refused inside the rounds and comes behind them; what is removed goes from each round; what may stand in a
-- round is added to the one that is meant.
use Prim.Native.Nat.{ℕ}
use mathlib.Core.Path.{◌≡◌, refl}
use mathlib.Core.Option.{some}
use mathlib.Core.List.{List, [], ◌∷◌, map}
use Rattle.rules.specs.declared.Quantifier.TheVariants.{None, Star}
use Rattle.rules.specs.declared.GroupKind.TheVariants.{Sequence}
use Rattle.rules.specs.Bytes.{Bytes, ascii, concat}
use Rattle.rules.specs.Model.{done, el, group, names, member, full, distinct}
use Rattle.rules.specs.Automaton.{accepts, continues, facts}
use Rattle.rules.specs.Store.{empty, complex, bare, tree, Store}
use Rattle.rules.specs.Layout.{value_width, base_version}
use Rattle.rules.specs.Decode.{confirm, next_serial}
use Rattle.rules.specs.WellFormed.{good_definition, well_formed}
use Rattle.rules.specs.Conforming.{strip, fits_row, conforming}
use Rattle.rules.specs.Passing.{good, good_serials}
use Rattle.rules.specs.Print.{printed}
use Rattle.rules.specs.Filling.{fill_attributes, fill_content, fill_within}
use Rattle.rules.specs.Place.{plug, kind_at, spine, before_place, around, after_members, find}
use Rattle.rules.specs.Edit.{edited, place, place_of}
use Rattle.rules.specs.Lines.{Line, children_of}
use Rattle.rules.specs.Change.{Call, insert_element, remove_element, change_group_quantifier, add_element, destroy_element}
use Rattle.rules.specs.Change.{form_after, plan, prune, each_row, plant, new_rows, given, number, after}
use Rattle.rules.specs.Refusal.{conditions, refusal}
use Rattle.rules.specs.Outcome.{Outcome, refused, outcome}
use Rattle.rules.specs.Book.{untaken, row_by_serial, falls, mark, put_spot, spots, expand, spot_count, note}
use Rattle.rules.specs.Run.{Asked, Moment, step, run}
use Rattle.text_scan.specs.Scan.{starts_with, front_while, after_while}
use Rattle.history.specs.History.{taken_serials, serials_in, moment_of}
use Rattle.reading_rules.specs.Reader.{members_of_text, content_of_text, attributes_of_text, definition_of_text, form_of_text}
use Rattle.reading_rules.specs.Reader.{rows_of_text, documents_of_text, parsed}
use Rattle.reading_rules.specs.Reading.{read_text}
use Rattle.reading_rules.proofs.Examples.{defined, element_numbered}
use Rattle.reading_history.specs.ReadStart.{ReadStart, Demand3OfReading}
use Rattle.reading_history.proofs.StartLaws.{start_read, demand_3_of_reading}

abbrev rounds_text : Bytes
rounds_text =
    concat
    (ascii "<!ELEMENT r ((a,b)*)>\n"
    ∷ ascii "<!ELEMENT a EMPTY>\n<!ELEMENT b EMPTY>\n<!ELEMENT c EMPTY>\n"
    ∷ ascii "<r><a></a><b></b><a></a><b></b></r>\n"
    ∷ [])

-- r 1 with a 2, b 3, a 4, b 5
abbrev rounds : Store
rounds =
    record {
      version = base_version;
      next = 6;
      form =
          defined "r" (complex (group Star Sequence (el None (ascii "a") (el None (ascii "b") done)) done))
          ∷ defined "a" empty
          ∷ defined "b" empty
          ∷ defined "c" empty
          ∷ [];
      docs =
          tree (element_numbered 1 "r")
          (tree (element_numbered 2 "a") bare (tree (element_numbered 3 "b") bare (tree (element_numbered 4 "a") bare (tree (element_numbered 5 "b") bare bare)))) bare;
    }

rounds_read : read_text base_version rounds_text ≡ some rounds
unfolding names member full distinct facts continues accepts good_definition well_formed strip fits_row conforming good_serials good new_rows given number
    printed starts_with front_while after_while members_of_text content_of_text attributes_of_text definition_of_text form_of_text rows_of_text documents_of_text parsed
    read_text
rounds_read = refl

abbrev begin : Moment
begin = moment_of rounds

-- a history may start with it
pub rounds_start : ReadStart base_version rounds_text begin
rounds_start = start_read base_version rounds_text rounds rounds_read

abbrev asked : Call → Asked
asked c = record { call = c; room = 1000 }

-- c behind the rounds, exactly one: c 6, the last child of r
abbrev behind : List Asked
behind = asked (insert_element 0 (1 ∷ []) 3 0 (ascii "t")) ∷ []

-- then no b any more: b 3 and b 5 go, one of each round
abbrev history : List Asked
history = asked (insert_element 0 (1 ∷ []) 3 0 (ascii "t")) ∷ asked (remove_element 0 (1 ∷ 2 ∷ [])) ∷ []

-- c inside the rounds, at most one: no row comes; then one is added in the second round, c 6 between a 4 and b 5
abbrev within : List Asked
within = asked (insert_element 0 (1 ∷ 1 ∷ []) 3 1 []) ∷ asked (add_element 1 3 3 []) ∷ []

abbrev answer : Call → Outcome
answer c = outcome c begin.store 1000

abbrev standing : Moment → List ℕ
standing m = map (λ (l : Line). l.row.serial) (untaken m.book.entries)

pub record Rounds : Type 0 where
  -- refused: exactly one c in each round; exactly one round; an element more, or less, than whole rounds have
  pub inside : answer (insert_element 0 (1 ∷ 1 ∷ []) 3 0 (ascii "t")) ≡ refused 13
  pub one_round : answer (change_group_quantifier 0 (1 ∷ []) 0 (ascii "t")) ≡ refused 13
  pub one_more : answer (add_element 1 4 1 []) ≡ refused 15
  pub one_less : answer (destroy_element 4) ≡ refused 15
  pub lines_behind : standing (run behind begin) ≡ 1 ∷ 2 ∷ 3 ∷ 4 ∷ 5 ∷ 6 ∷ []
  pub rows_behind : serials_in (run behind begin).store ≡ 1 ∷ 2 ∷ 3 ∷ 4 ∷ 5 ∷ 6 ∷ []
  pub lines_left : standing (run history begin) ≡ 1 ∷ 2 ∷ 4 ∷ 6 ∷ []
  pub taken_left : taken_serials (run history begin).book.entries ≡ 3 ∷ 5 ∷ []
  pub rows_left_lem : serials_in (run history begin).store ≡ 1 ∷ 2 ∷ 4 ∷ 6 ∷ []
  pub next_left : next_serial (run history begin).store ≡ 7
  pub lines_within : standing (run within begin) ≡ 1 ∷ 2 ∷ 3 ∷ 4 ∷ 6 ∷ 5 ∷ []
  pub rows_within : serials_in (run within begin).store ≡ 1 ∷ 2 ∷ 3 ∷ 4 ∷ 6 ∷ 5 ∷ []

pub rounds_changed : Rounds
unfolding value_width names member full distinct facts continues accepts plug kind_at spine before_place around after_members find edited place place_of
    good_definition well_formed strip fits_row conforming good_serials good fill_attributes fill_content fill_within children_of form_after plan prune each_row
    plant new_rows given number after conditions refusal confirm outcome untaken row_by_serial falls mark put_spot spots expand spot_count note step run
rounds_changed =
    record {
      inside = refl;
      one_round = refl;
      one_more = refl;
      one_less = refl;
      lines_behind = refl;
      rows_behind = refl;
      lines_left = refl;
      taken_left = refl;
      rows_left_lem = refl;
      next_left = refl;
      lines_within = refl;
      rows_within = refl;
    }

-- and all that Demand 3 says of it
pub rounds_demand : (later : List Asked) → Demand3OfReading base_version rounds_text begin history later
rounds_demand = demand_3_of_reading rounds_start history
