-- The examples of paper 01 as one table, its 'plausible and false' list, each shown false, and a few more.
use Prim.Native.Nat.{ℕ, suc, ◌+◌}
use Prim.Native.String.{String}
use mathlib.Core.Path.{◌≡◌, refl}
use mathlib.Core.Bool.{true, false, false≢true}
use mathlib.Core.List.{List, [], ◌∷◌}
use lib.ListN.{length}
use Rattle.rules.specs.declared.Quantifier.TheVariants.{None, Qmark, Star, Plus}
use Rattle.rules.specs.declared.GroupKind.TheVariants.{Sequence, Choice}
use Rattle.rules.specs.declared.AttributeSort.TheVariants.{Implied, Required, Fixed}
use Rattle.rules.specs.Bytes.{Bytes, same, ascii, concat, bytes, numbers}
use Rattle.rules.specs.Model.{Members, done, el, group, names, nothing, filling, member, full, distinct}
use Rattle.rules.specs.Language.{Conforms}
use Rattle.rules.specs.Automaton.{accepts, continues, facts}
use Rattle.rules.specs.Store.{Content, empty, pcdata, complex, Definition, Form, element, attribute, text, Row, Forest, bare, tree, Store, members}
use Rattle.rules.specs.Decode.{confirm}
use Rattle.rules.specs.Layout.{base_version, value_width, flat, encode, each, row_bytes}
use Rattle.rules.specs.WellFormed.{reaches, good_definition, well_formed}
use Rattle.rules.specs.Conforming.{strip, fits_row, conforming}
use Rattle.rules.specs.Passing.{serials, good, good_serials}
use Rattle.rules.specs.Filling.{fill_attributes, fill_each, fill_content, fill_within}
use Rattle.rules.specs.Place.{plug, kind_at, spine, before_place, around, after_members, find}
use Rattle.rules.specs.Edit.{◌⊕◌, edited, place, place_of}
use Rattle.rules.specs.Lines.{find_row, children_of}
use Rattle.rules.specs.Change.{Call, create_definition, add_attribute, destroy_definition, insert_element, remove_element, change_quantifier, convert_to_group, change_group_quantifier}
use Rattle.rules.specs.Change.{set_attribute, destroy_attribute_row, definition_at, attribute_at, form_after, plan, prune, each_row, plant, new_rows, given}
use Rattle.rules.specs.Change.{number, after}
use Rattle.rules.specs.Refusal.{conditions, refusal}
use Rattle.rules.specs.Outcome.{wrote, outcome}
use Rattle.rules.specs.Print.{printed, print_outcome}
use Rattle.rules.proofs.Correct.{accepts_conforms}
use Rattle.rules.proofs.TestLaws.{distinct_test}

-- ---- small forms and documents; a, b, c, x are EMPTY
abbrev a : Bytes
a = ascii "a"

abbrev b : Bytes
b = ascii "b"

abbrev c : Bytes
c = ascii "c"

abbrev x : Bytes
x = ascii "x"

abbrev defined : String → Content → Definition
defined n k = record { name = ascii n; content = k; attributes = [] }

-- definition 0 has the model, 1 to 4 are a, b, c, x
abbrev form_of : Members Bytes → Form
form_of ms = defined "r" (complex ms) ∷ defined "a" empty ∷ defined "b" empty ∷ defined "c" empty ∷ defined "x" empty ∷ []

-- elements without anything below them, with serials from n on
abbrev elements : ℕ → List Bytes → Forest Row
elements n [] = bare
elements n (m ∷ ms) = tree (record { serial = n; sort = element; name = m; value = [] }) bare (elements (suc n) ms)

-- one document: an instance of r, serial 1, with children of these names, serials from 2 on
abbrev document_of : List Bytes → Forest Row
document_of ns = tree (record { serial = 1; sort = element; name = ascii "r"; value = [] }) (elements 2 ns) bare

abbrev store_of : Members Bytes → List Bytes → Store
store_of ms ns = record { version = base_version; next = 2 + length ns; form = form_of ms; docs = document_of ns }

-- the same form without documents
abbrev empty_of : Members Bytes → Store
empty_of ms = record { version = base_version; next = 1; form = form_of ms; docs = bare }

abbrev refuses : Call → Store → ℕ
refuses k s = refusal 9999 k s

-- after a change: the model of r, and the serials of the rows in document order
abbrev model_then : Call → Store → Members Bytes
model_then k s = members (definition_at 0 (after k s).form)

abbrev serials_then : Call → Store → List ℕ
serials_then k s = serials (after k s).docs

-- (a?,(b|c)*)
abbrev optional_then_either : Members Bytes
optional_then_either = el Qmark a (group Star Choice (el None b (el None c done)) done)

-- (b,a*,c)
abbrev star_between : Members Bytes
star_between = el None b (el Star a (el None c done))

-- (a,(b,c))
abbrev nested : Members Bytes
nested = el None a (group None Sequence (el None b (el None c done)) done)

-- race (finisher*), finisher (bib), bib ()
abbrev races : Store
races =
    record {
      version = base_version;
      next = 1;
      form = defined "race" (complex (el Star (ascii "finisher") done)) ∷ defined "finisher" (complex (el None (ascii "bib") done)) ∷ defined "bib" (complex done) ∷ [];
      docs = bare;
    }

-- ---- P1 to P12
pub record Examples : Type 0 where
  pub p1 : accepts bytes optional_then_either (a ∷ b ∷ c ∷ []) ≡ true
  pub p1_empty : accepts bytes optional_then_either [] ≡ true
  pub p1_language : Conforms optional_then_either (a ∷ b ∷ c ∷ [])
  pub p1_empty_language : Conforms optional_then_either []
  pub p2 : accepts bytes optional_then_either (b ∷ a ∷ []) ≡ false
  pub p2_language : Conforms optional_then_either (b ∷ a ∷ []) → ⊥
  pub p3 : filling Sequence (group None Choice (el None a (el None b done)) (el Qmark c done)) ≡ a ∷ []
  pub p4_first : serials_then (change_quantifier 0 (2 ∷ []) 0 (ascii "t")) (store_of star_between (b ∷ a ∷ a ∷ a ∷ c ∷ [])) ≡ 1 ∷ 2 ∷ 3 ∷ 6 ∷ []
  pub p4 : refuses (change_quantifier 0 (2 ∷ []) 0 (ascii "t")) (store_of star_between (b ∷ a ∷ a ∷ a ∷ c ∷ [])) ≡ 0
  pub p5_one : serials_then (change_quantifier 0 (2 ∷ []) 0 (ascii "t")) (store_of star_between (b ∷ c ∷ [])) ≡ 1 ∷ 2 ∷ 4 ∷ 3 ∷ []
  pub p5 : refuses (change_quantifier 0 (2 ∷ []) 0 (ascii "t")) (store_of star_between (b ∷ c ∷ [])) ≡ 0
  pub p6 : refuses (change_quantifier 0 (1 ∷ 1 ∷ []) 1 []) (store_of (group Star Sequence (el Star a (el None b done)) done) []) ≡ 13
  pub p7 : refuses (insert_element 1 (0 ∷ []) 0 2 []) races ≡ 11
  pub p8 : refuses (convert_to_group 0 (1 ∷ []) 2 2) (empty_of (el None a (el None b done))) ≡ 14
  pub p9 : refuses (convert_to_group 0 (1 ∷ []) 1 2) (empty_of (el None a (el None b done))) ≡ 0
  pub p10 : refuses (insert_element 0 (2 ∷ 0 ∷ []) 4 0 (ascii "t")) (empty_of nested) ≡ 0
  pub p10_model : model_then (insert_element 0 (2 ∷ 0 ∷ []) 4 0 (ascii "t")) (empty_of nested) ≡ el None a (group None Sequence (el None x (el None b (el None c done))) done)
  pub p11 : refuses (insert_element 0 (2 ∷ []) 4 0 (ascii "t")) (empty_of nested) ≡ 0
  pub p11_model : model_then (insert_element 0 (2 ∷ []) 4 0 (ascii "t")) (empty_of nested) ≡ el None a (group None Sequence (el None b (el None c done)) (el None x done))
  pub p12 : refuses (insert_element 0 (2 ∷ 3 ∷ []) 4 0 (ascii "t")) (empty_of nested) ≡ 8

pub examples : Examples
unfolding value_width names nothing filling member full distinct facts continues accepts plug kind_at spine before_place around after_members find ◌⊕◌ edited place
    place_of good_definition well_formed strip fits_row conforming good_serials good fill_attributes fill_each fill_content fill_within find_row children_of attribute_at
    form_after plan prune each_row plant new_rows given number after conditions refusal
examples =
    record {
      p1 = refl;
      p1_empty = refl;
      p1_language = (accepts_conforms bytes optional_then_either ((distinct_test bytes (names optional_then_either)).0 refl) (a ∷ b ∷ c ∷ [])).0 refl;
      p1_empty_language = (accepts_conforms bytes optional_then_either ((distinct_test bytes (names optional_then_either)).0 refl) []).0 refl;
      p2 = refl;
      p2_language = λ h. false≢true ((accepts_conforms bytes optional_then_either ((distinct_test bytes (names optional_then_either)).0 refl) (b ∷ a ∷ [])).1 h);
      p3 = refl;
      p4_first = refl;
      p4 = refl;
      p5_one = refl;
      p5 = refl;
      p6 = refl;
      p7 = refl;
      p8 = refl;
      p9 = refl;
      p10 = refl;
      p10_model = refl;
      p11 = refl;
      p11_model = refl;
      p12 = refl;
    }

-- ---- 'plausible and false'
-- finisher (bib?,time) with one instance that has no bib, and club; serials: finisher 1, time 2, its text 3
abbrev without_bib : Store
without_bib =
    record {
      version = base_version;
      next = 4;
      form = defined "finisher" (complex (el Qmark (ascii "bib") (el None (ascii "time") done))) ∷ defined "bib" pcdata ∷ defined "time" pcdata ∷ defined "club" pcdata ∷ [];
      docs = tree (record { serial = 1; sort = element; name = ascii "finisher"; value = [] })
          (tree (record { serial = 2; sort = element; name = ascii "time"; value = [] }) (tree (record { serial = 3; sort = text; name = []; value = ascii "-" }) bare bare) bare) bare;
    }

abbrev insert_club : Call
insert_club = insert_element 0 (1 ∷ []) 3 0 (ascii "none")

-- an unused definition 0 before r, which has an instance
abbrev unused_first : Store
unused_first = record { version = base_version; next = 3; form = defined "u" empty ∷ form_of (el None a done); docs = document_of (a ∷ []) }

abbrev unused_gone : Store
unused_gone = record { version = base_version; next = 3; form = form_of (el None a done); docs = document_of (a ∷ []) }

abbrev tree_body : Store → Bytes
tree_body s = each (row_bytes (value_width s.version)) (flat s).rows

pub record PlausibleAndFalse : Type 0 where
  -- club comes as child 0, before time (serials 4 and 5), and is accepted there
  pub club_as_child_0 : serials_then insert_club without_bib ≡ 1 ∷ 4 ∷ 5 ∷ 2 ∷ 3 ∷ []
  pub club_accepted : refuses insert_club without_bib ≡ 0
  -- as child 1 the children would not be in the new model's language
  pub club_as_child_1 : accepts bytes (model_then insert_club without_bib) (ascii "time" ∷ ascii "club" ∷ []) ≡ false
  -- a cut does not keep the last, serial 5
  pub cut_keeps_last : member numbers 5 (serials_then (change_quantifier 0 (2 ∷ []) 0 (ascii "t")) (store_of star_between (b ∷ a ∷ a ∷ a ∷ c ∷ []))) ≡ false
  -- race into bib closes a circle of three, which one step does not show
  pub circle_one_step : reaches 1 races.form (ascii "bib") (ascii "race") ≡ false
  pub circle : refuses (insert_element 2 (0 ∷ []) 0 2 []) races ≡ 11
  -- after change 2 the indices in the tree have moved
  pub unused_accepted : refuses (destroy_definition 0) unused_first ≡ 0
  pub tree_unmoved : same (tree_body unused_first) (tree_body (after (destroy_definition 0) unused_first)) ≡ false
  pub tree_moved : outcome (destroy_definition 0) (encode unused_first) 9999 ≡ wrote (encode unused_gone)
  -- b is not dropped from (a|b) while an instance exists
  pub choice_left : refuses (remove_element 0 (1 ∷ 2 ∷ [])) (store_of (group None Choice (el None a (el None b done)) done) (b ∷ [])) ≡ 15

pub plausible_and_false : PlausibleAndFalse
unfolding value_width names nothing filling member full distinct facts continues accepts plug kind_at spine before_place around after_members find ◌⊕◌ edited place
    place_of good_definition well_formed strip fits_row conforming good_serials good fill_attributes fill_each fill_content fill_within find_row children_of attribute_at
    form_after plan prune each_row plant new_rows given number after conditions refusal confirm outcome
plausible_and_false =
    record {
      club_as_child_0 = refl;
      club_accepted = refl;
      club_as_child_1 = refl;
      cut_keeps_last = refl;
      circle_one_step = refl;
      circle = refl;
      unused_accepted = refl;
      tree_unmoved = refl;
      tree_moved = refl;
      choice_left = refl;
    }

-- ---- more: rows 12, 14 and 15 of changes 4 and 8, and the printed text
-- (a,(b,c)?)
abbrev optional_pair : Members Bytes
optional_pair = el None a (group Qmark Sequence (el None b (el None c done)) done)

-- (a|(b,c))
abbrev list_in_choice : Members Bytes
list_in_choice = group None Choice (el None a (group None Sequence (el None b (el None c done)) done)) done

-- a store that prints with every mark, every sort of attribute and every escape
abbrev printable : Store
printable =
    record {
      version = base_version;
      next = 7;
      form =
          record {
            name = ascii "r";
            content = complex (group Star Choice (el None a (el Plus b done)) (el Qmark c done));
            attributes =
                record { name = ascii "i"; sort = Implied; value = [] }
                ∷ record { name = ascii "q"; sort = Required; value = ascii "0" }
                ∷ record { name = ascii "f"; sort = Fixed; value = ascii "\"<&>" }
                ∷ [];
          }
          ∷ defined "a" empty
          ∷ defined "b" pcdata
          ∷ defined "c" (complex done)
          ∷ [];
      docs =
          tree (record { serial = 1; sort = element; name = ascii "r"; value = [] })
          (tree (record { serial = 2; sort = attribute; name = ascii "q"; value = ascii ">" }) bare
          (tree (record { serial = 3; sort = attribute; name = ascii "f"; value = ascii "\"<&>" }) bare
          (tree (record { serial = 4; sort = element; name = a; value = [] }) bare
          (tree (record { serial = 5; sort = element; name = b; value = [] }) (tree (record { serial = 6; sort = text; name = []; value = ascii "1&2" }) bare bare) bare)))) bare;
    }

abbrev printable_text : Bytes
printable_text =
    concat
    (ascii "<!ELEMENT r ((a|b+)*,c?)>\n"
    ∷ ascii "<!ATTLIST r i CDATA #IMPLIED>\n"
    ∷ ascii "<!ATTLIST r q CDATA #REQUIRED>\n"
    ∷ ascii "<!ATTLIST r f CDATA #FIXED \"&quot;&lt;&amp;&gt;\">\n"
    ∷ ascii "<!ELEMENT a EMPTY>\n"
    ∷ ascii "<!ELEMENT b (#PCDATA)>\n"
    ∷ ascii "<!ELEMENT c EMPTY>\n"
    ∷ ascii "<r q=\"&gt;\" f=\"&quot;&lt;&amp;&gt;\"><a></a><b>1&amp;2</b></r>\n"
    ∷ [])

pub record More : Type 0 where
  -- 8: a gain wants a text, and gives an instance without a child of the
  -- group its filling; what only relaxes wants none
  pub group_gain_without_text : refuses (change_group_quantifier 0 (2 ∷ []) 0 []) (empty_of optional_pair) ≡ 12
  pub group_gain : refuses (change_group_quantifier 0 (2 ∷ []) 0 (ascii "t")) (store_of optional_pair (a ∷ [])) ≡ 0
  pub group_gain_rows : serials_then (change_group_quantifier 0 (2 ∷ []) 0 (ascii "t")) (store_of optional_pair (a ∷ [])) ≡ 1 ∷ 2 ∷ 3 ∷ 4 ∷ []
  pub group_relaxed_without_text : refuses (change_group_quantifier 0 (2 ∷ []) 2 []) (store_of optional_pair (a ∷ [])) ≡ 0
  -- 4: the last of an inner group stays, the last of the top list may go
  pub last_of_group : refuses (remove_element 0 (2 ∷ 1 ∷ [])) (empty_of (el None a (group None Sequence (el None b done) done))) ≡ 14
  pub last_of_top : refuses (remove_element 0 (1 ∷ [])) (empty_of (el None a done)) ≡ 0
  -- 4, with an instance: the CHOICE left accepts nothing by its
  -- quantifier, or by a member; a LIST inside a CHOICE is none
  pub choice_star : refuses (remove_element 0 (1 ∷ 2 ∷ [])) (store_of (group Star Choice (el None a (el None b done)) done) (b ∷ [])) ≡ 0
  pub choice_member : refuses (remove_element 0 (1 ∷ 2 ∷ [])) (store_of (group None Choice (el Qmark a (el None b done)) done) (b ∷ [])) ≡ 0
  pub choice_around_list : refuses (remove_element 0 (1 ∷ 2 ∷ 1 ∷ [])) (store_of list_in_choice (b ∷ c ∷ [])) ≡ 0
  -- the text
  pub text : print_outcome (encode printable) 9999 ≡ wrote printable_text

pub more : More
unfolding value_width names nothing filling member full distinct facts continues accepts plug kind_at spine before_place around after_members find ◌⊕◌ edited place
    place_of good_definition well_formed strip fits_row conforming good_serials good fill_attributes fill_each fill_content fill_within find_row children_of attribute_at
    form_after plan prune each_row plant new_rows given number after conditions refusal confirm outcome printed print_outcome
more =
    record {
      group_gain_without_text = refl;
      group_gain = refl;
      group_gain_rows = refl;
      group_relaxed_without_text = refl;
      last_of_group = refl;
      last_of_top = refl;
      choice_star = refl;
      choice_member = refl;
      choice_around_list = refl;
      text = refl;
    }

-- ---- an attribute by its sort, in a store of the base version: in `printable`, r has an IMPLIED one, number 0, a
-- REQUIRED one, 1, and a FIXED one, 2. The laws take what is said of a sort as it stands; these say what it is.
pub record Sorts : Type 0 where
  -- 'REQUIRED present'
  pub required_row : refuses (destroy_attribute_row 1 1) printable ≡ 15
  pub fixed_row : refuses (destroy_attribute_row 1 2) printable ≡ 0
  -- 'FIXED equal if present'
  pub fixed_value : refuses (set_attribute 1 2 (ascii "x")) printable ≡ 15
  pub fixed_value_given : refuses (set_attribute 1 2 (ascii "\"<&>")) printable ≡ 0
  pub required_value : refuses (set_attribute 1 1 (ascii "x")) printable ≡ 0
  pub implied_value : refuses (set_attribute 1 0 (ascii "x")) printable ≡ 0
  -- 'its REQUIRED attributes with their fills'
  pub created : fill_attributes base_version (definition_at 0 printable.form).attributes bare
      ≡ tree (record { serial = 0; sort = attribute; name = ascii "q"; value = ascii "0" }) bare bare

pub sorts : Sorts
unfolding value_width member facts continues accepts strip fits_row conforming fill_attributes find_row children_of attribute_at form_after plan prune each_row plant
    new_rows given number after conditions refusal
sorts =
    record {
      required_row = refl;
      fixed_row = refl;
      fixed_value = refl;
      fixed_value_given = refl;
      required_value = refl;
      implied_value = refl;
      created = refl;
    }

-- ---- paper 02, W1: names that XML 1.0 reserves
-- a store that holds two, a definition's and an attribute's, and one instance
abbrev reserving : Store
reserving =
    record {
      version = base_version;
      next = 2;
      form = record { name = ascii "xmlTime"; content = empty; attributes = record { name = ascii "XmL"; sort = Implied; value = [] } ∷ [] } ∷ [];
      docs = tree (record { serial = 1; sort = element; name = ascii "xmlTime"; value = [] }) bare bare;
    }

pub record Reserved : Type 0 where
  -- 'Stores that already hold one still pass the check'
  pub still_passes : good reserving ≡ true
  -- 'each in either case'; `xml` itself is reserved, `xm` and `xmk` are not
  pub either_case : refuses (create_definition (ascii "XMLtime") 1) reserving ≡ 2
  pub three_bytes : refuses (create_definition (ascii "xml") 1) reserving ≡ 2
  pub two_bytes : refuses (create_definition (ascii "xm") 1) reserving ≡ 0
  pub other_third : refuses (create_definition (ascii "xmk") 1) reserving ≡ 0
  -- 2 stands before 5
  pub before_taken : refuses (create_definition (ascii "xmlTime") 1) reserving ≡ 2
  pub of_attribute : refuses (add_attribute 0 (ascii "xMl-id") 0 []) reserving ≡ 2

pub reserved : Reserved
unfolding value_width names nothing filling member full distinct facts continues accepts plug kind_at spine before_place around after_members find ◌⊕◌ edited place
    place_of good_definition well_formed strip fits_row conforming good_serials good fill_attributes fill_each fill_content fill_within find_row children_of attribute_at
    form_after plan prune each_row plant new_rows given number after conditions refusal confirm outcome
reserved =
    record {
      still_passes = refl;
      either_case = refl;
      three_bytes = refl;
      two_bytes = refl;
      other_third = refl;
      before_taken = refl;
      of_attribute = refl;
    }
