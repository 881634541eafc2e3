-- What each call of the history answers, computed.
use Prim.Native.Nat.{ℕ}
use mathlib.Core.Path.{◌≡◌, refl}
use mathlib.Core.Bool.{true}
use mathlib.Core.List.{[], ◌∷◌}
use lib.Dec.{leb}
use lib.ListN.{length}
use Rattle.rules.specs.Layout.{value_width}
use Rattle.rules.specs.Bytes.{Bytes, ascii}
use Rattle.rules.specs.Model.{names, nothing, filling, member, full, distinct}
use Rattle.rules.specs.Automaton.{accepts, continues, facts}
use Rattle.rules.specs.Decode.{confirm, next_serial}
use Rattle.rules.specs.WellFormed.{good_definition, well_formed}
use Rattle.rules.specs.Conforming.{strip, fits_row, conforming}
use Rattle.rules.specs.Passing.{good, good_serials}
use Rattle.rules.specs.Filling.{fill_attributes, fill_each, fill_content, fill_within}
use Rattle.rules.specs.Place.{plug, kind_at, spine, before_place, around, after_members, find}
use Rattle.rules.specs.Edit.{◌⊕◌, edited, place, place_of}
use Rattle.rules.specs.Lines.{find_row, children_of}
use Rattle.rules.specs.Change.{create_definition, insert_element, change_quantifier, add_document, add_element, set_text, attribute_at, form_after, plan, prune, each_row, plant, new_rows, given, number, after}
use Rattle.rules.specs.Refusal.{conditions, refusal}
use Rattle.rules.specs.Outcome.{Outcome, wrote, outcome}
use Rattle.rules.specs.Print.{printed, print_outcome}
use Rattle.rules.specs.Run.{step, run}
use Rattle.clubform.specs.History.{history, stage, last_text}

-- a call that reads `s` is accepted, and writes `w`
pub record Gives (call : Bytes → ℕ → Outcome) (s w : Bytes) : Type 0 where
  pub writes : call s 508 ≡ wrote w
  pub fits : leb (length w) 508 ≡ true

pub record Accepted : Type 0 where
  pub create_race : Gives (outcome (create_definition (ascii "race") 2)) (stage 0) (stage 1)
  pub create_finisher : Gives (outcome (create_definition (ascii "finisher") 2)) (stage 1) (stage 2)
  pub create_bib : Gives (outcome (create_definition (ascii "bib") 1)) (stage 2) (stage 3)
  pub create_time : Gives (outcome (create_definition (ascii "time") 1)) (stage 3) (stage 4)
  pub insert_finisher : Gives (outcome (insert_element 0 (0 ∷ []) 1 2 [])) (stage 4) (stage 5)
  pub insert_bib : Gives (outcome (insert_element 1 (0 ∷ []) 2 0 (ascii "0"))) (stage 5) (stage 6)
  pub insert_time : Gives (outcome (insert_element 1 (1 ∷ []) 3 0 (ascii "-"))) (stage 6) (stage 7)
  pub new_race : Gives (outcome (add_document 0 [])) (stage 7) (stage 8)
  pub add_finisher : Gives (outcome (add_element 1 0 1 (ascii "7"))) (stage 8) (stage 9)
  pub set_time : Gives (outcome (set_text 5 (ascii "19:04"))) (stage 9) (stage 10)
  pub create_club : Gives (outcome (create_definition (ascii "club") 1)) (stage 10) (stage 11)
  pub insert_club : Gives (outcome (insert_element 1 (1 ∷ []) 4 0 (ascii "none"))) (stage 11) (stage 12)
  pub make_time_optional : Gives (outcome (change_quantifier 1 (3 ∷ []) 1 [])) (stage 12) (stage 13)
  pub print : Gives print_outcome (stage 13) last_text
  pub length_is : length (stage 13) ≡ 508
  pub next_is : next_serial (stage 13) ≡ 9

pub accepted : Accepted
unfolding value_width names nothing filling member full distinct facts continues accepts plug kind_at spine before_place around after_members find ◌⊕◌ edited place
    place_of good_definition well_formed strip fits_row conforming good_serials good fill_attributes fill_each fill_content fill_within find_row children_of attribute_at
    form_after plan prune each_row plant new_rows given number after conditions refusal confirm outcome printed print_outcome step run history stage last_text
accepted =
    record {
      create_race = record { writes = refl; fits = refl };
      create_finisher = record { writes = refl; fits = refl };
      create_bib = record { writes = refl; fits = refl };
      create_time = record { writes = refl; fits = refl };
      insert_finisher = record { writes = refl; fits = refl };
      insert_bib = record { writes = refl; fits = refl };
      insert_time = record { writes = refl; fits = refl };
      new_race = record { writes = refl; fits = refl };
      add_finisher = record { writes = refl; fits = refl };
      set_time = record { writes = refl; fits = refl };
      create_club = record { writes = refl; fits = refl };
      insert_club = record { writes = refl; fits = refl };
      make_time_optional = record { writes = refl; fits = refl };
      print = record { writes = refl; fits = refl };
      length_is = refl;
      next_is = refl;
    }
